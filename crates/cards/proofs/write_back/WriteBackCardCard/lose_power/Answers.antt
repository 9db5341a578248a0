use Rattle.std.proofs.Common.{◌≡◌, cond, sym, ap, rules}
use Rattle.cards.specs.WriteBackCards.{kept, fresh, fresh_stays, after_loss}
use Rattle.cards.proofs.write_back.WriteBackCardCard.lose_power.Goals as goal

pub returns-clause-exact : goal.returns-clause-exact
returns-clause-exact c =
    let xs = c.args.self.now.bytes.now in
    let pattern = c.args.pattern in
    c.settle.ensures (after_loss pattern xs)
    (λ b stays lt answered.
    let is : stays ≡ fresh_stays pattern b = search rules in
    sym (ap (λ t. cond t (fresh xs b) (kept xs b)) is))

pub returns-clause-card : goal.returns-clause-card
returns-clause-card c =
    let settled = returns-clause-exact c in
    search rules
