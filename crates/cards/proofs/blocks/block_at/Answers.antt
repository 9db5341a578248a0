use Rattle.std.proofs.Common.{◌≡◌, ◌+◌, ◌-◌, ◌*◌, length, drop, take, ap, ◌∙◌, arith}
use Rattle.cards.specs.SoundCards.{length-block_at}
use Rattle.cards.proofs.blocks.block_at.Goals as goal

pub returns : goal.returns
returns c =
    let xs = c.args.bytes.now in
    let at = c.args.p * 512 in
    let size : at + 512 - at ≡ 512 = omega arith in
    let value = ap (λ n. take n (drop at xs)) size in
    record { value = value; whole = ap length value ∙ length-block_at xs c.args.p c.requires }
