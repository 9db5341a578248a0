use Rattle.std.proofs.Common.{ap, sym, subst}
use Rattle.cards.specs.Meanings.{Lost}
use Rattle.cards.specs.OnShelf.{held_of, on_shelf}
use Rattle.cards.specs.Shelves.{shelved}
use Rattle.cards.proofs.ShelfLaws.{shelf_lost}
use Rattle.cards.proofs.shelf.ShelfCard.lose_power.Goals as goal

pub returns-clause-card : goal.returns-clause-card
returns-clause-card g c =
    let meaning = g.C.Card.meaning in
    let s = c.args.self.now in
    let empty = ap held_of c.clear.ensures in
    subst (λ hs. Lost (shelved (meaning s.card) (on_shelf s)) (shelved (meaning c.lose_power.new.self) hs)) (sym empty)
    (shelf_lost (on_shelf s) _ _ c.lose_power.ensures.card)
