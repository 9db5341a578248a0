use Rattle.std.proofs.Common.{◌≡◌, ◌+◌, length, Ok, ◌∙◌, ap₂, rules}
use Rattle.cards.specs.Answers.{answer}
use Rattle.cards.specs.Blocks.{put_block}
use Rattle.cards.specs.WriteBackCards.{pairs}
use Rattle.cards.proofs.Admitted.{admitted}
use Rattle.cards.proofs.WriteBackLaws.{back_wrote, back_writes}
use Rattle.cards.proofs.write_back.WriteBackCardCard.write.Goals as goal

pub returns : goal.returns
returns c =
    let xs = c.args.self.now.bytes.now in
    let x = c.args.bytes.now in
    let b = c.args.b in
    let ok : Ok tt ≡ answer (pairs xs) b (length x) = search rules in
    let is : c.put_block.new.bytes ≡ put_block xs (pairs xs + b) x = c.put_block.ensures ∙ ap₂ (λ n y. put_block xs (n + b) y) c.blocks-n.ensures c.in_ok-block.ensures.0 in
    record {
      value = ok;
      card = back_wrote xs x _ b (admitted _ _ _ _ ok) is;
      lender = search rules;
      exact = back_writes xs x _ b tt ok is;
    }
