use Rattle.std.proofs.Common.{ap, ◌∙◌, subst, sym}
use Rattle.cards.specs.Meanings.{Flushed}
use Rattle.cards.specs.OnShelf.{held_of, on_shelf}
use Rattle.cards.specs.Shelves.{shelved}
use Rattle.cards.proofs.Sequences.{wrote_exactly, wrote_meant, wrote_lenders}
use Rattle.cards.proofs.ShelfLaws.{shelf_flushed}
use Rattle.cards.proofs.shelf.ShelfCard.barrier.Goals as goal

pub returns : goal.returns
returns g c =
    let m = g.C.Card in
    let s = c.args.self.now in
    let t = c.flush.new.self in
    let went = c.flush.ensures.below in
    let empty = ap held_of c.flush.ensures.places in
    record {
      card =
          subst (λ hs. Flushed (shelved (m.meaning s.card) (on_shelf s)) (shelved (m.meaning c.barrier.new.self) hs)) (sym empty)
          (shelf_flushed s.places _ _ _ (wrote_meant m.meaning m.lenders m.writes _ _ _ went) c.barrier.ensures.card);
      exact = record { places = empty; below = (t.card, wrote_exactly m.meaning m.lenders m.writes _ _ _ went, c.barrier.ensures.exact) };
      lender = c.barrier.ensures.lender ∙ wrote_lenders m.meaning m.lenders m.writes _ _ _ went;
    }
