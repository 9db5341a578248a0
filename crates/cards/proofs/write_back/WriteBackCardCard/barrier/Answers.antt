use Rattle.std.proofs.Common.{◌≡◌, true, cond, sym, ap, rules}
use Rattle.cards.specs.WriteBackCards.{kept, fresh}
use Rattle.cards.proofs.WriteBackLaws.{back_flushed}
use Rattle.cards.proofs.write_back.WriteBackCardCard.barrier.Goals as goal

pub returns-clause-exact : goal.returns-clause-exact
returns-clause-exact c =
    let xs = c.args.self.now.bytes.now in
    c.settle.ensures (fresh xs)
    (λ b stays lt answered.
    let is : stays ≡ true = search rules in
    sym (ap (λ t. cond t (fresh xs b) (kept xs b)) is))

pub returns-clause-card : goal.returns-clause-card
returns-clause-card c = back_flushed _ _ (returns-clause-exact c)
