use Rattle.std.proofs.Common.{◌≡◌, length, Ok, ap, ◌∙◌, rules}
use Rattle.cards.specs.Answers.{answer}
use Rattle.cards.specs.Blocks.{put_block}
use Rattle.cards.specs.PlainCards.{plain}
use Rattle.cards.proofs.Admitted.{admitted}
use Rattle.cards.proofs.PlainLaws.{plain_wrote}
use Rattle.cards.proofs.plain.PlainCardCard.write.Goals as goal

pub returns : goal.returns
returns c =
    let xs = c.args.self.now.bytes.now in
    let x = c.args.bytes.now in
    let b = c.args.b in
    let ok : Ok tt ≡ answer (plain xs).size b (length x) = search rules in
    let is : c.put_block.new.bytes ≡ put_block xs b x = c.put_block.ensures ∙ ap (put_block xs b) c.in_ok-block.ensures.0 in
    record { value = ok; card = plain_wrote xs x _ b (admitted _ _ _ _ ok) is; lender = search rules; exact = search (rules, is) }
