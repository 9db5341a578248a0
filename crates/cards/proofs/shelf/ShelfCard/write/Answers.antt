use Rattle.std.proofs.Common.{◌≡◌, [], ◌∷◌, ◌++◌, length, slice_set, Some, None, Ok, sym, refl, ap, ◌∙◌, rules}
use Rattle.cards.specs.Answers.{answer, MeantWrite}
use Rattle.cards.specs.OnShelf.{held_of, on_shelf}
use Rattle.cards.specs.Shelves.{place_of}
use Rattle.cards.proofs.Admitted.{admitted}
use Rattle.cards.proofs.Sequences.{wrote_exactly, wrote_meant, wrote_lenders}
use Rattle.cards.proofs.ShelfLaws.{shelf_wrote, shelf_writes, written_below_none, written_below_room}
use Rattle.cards.proofs.ShelfPlaces.{place_held, held_replaced, held_added}
use Rattle.cards.proofs.shelf.ShelfCard.write.Goals as goal

pub returns-in-Some : goal.returns-in-Some
returns-in-Some g c =
    let s = c.args.self.now in
    let m = g.C.Card.meaning s.card in
    let b = c.args.b in
    let x = c.args.bytes.now in
    let i = c.in-Some.i in
    let value : Ok tt ≡ answer m.size b (length x) = search rules in
    let ok = admitted m.size b (length x) tt value in
    let at : place_of (on_shelf s) b ≡ Some i = place_held s.places b ∙ sym c.in-Some.ensures.value in
    let held = ap held_of (c.replace.ensures ∙ ap (λ y. slice_set s.places i (b, y)) c.in_ok-block.ensures.0) ∙ held_replaced s.places b x ok.0 i at in
    record {
      value = value;
      card = shelf_wrote s.places m m _ b x ok.1 (written_below_none MeantWrite (on_shelf s) b i m at) held;
      lender = refl;
      exact = shelf_writes g.C.Card.meaning g.C.Card.writes s _ b x value held (written_below_none g.C.Card.writes (on_shelf s) b i s.card at);
    }

pub returns : goal.returns
returns g c =
    let d = g.C.Card in
    let s = c.args.self.now in
    let t = c.make_room.new.self in
    let m = d.meaning s.card in
    let b = c.args.b in
    let x = c.args.bytes.now in
    let went = c.make_room.ensures.below in
    let value : Ok tt ≡ answer m.size b (length x) = search rules in
    let ok = admitted m.size b (length x) tt value in
    let at : place_of (on_shelf s) b ≡ None = place_held s.places b ∙ sym c.in_default.ensures.value in
    let held = ap held_of (c.push.ensures ∙ ap (λ y. t.places ++ (b, y) ∷ []) c.in_ok-block.ensures.0) ∙ held_added s.places b x ok.0 t.places at c.make_room.ensures.places in
    let meant = written_below_room MeantWrite (on_shelf s) b m (d.meaning t.card) at (wrote_meant d.meaning d.lenders d.writes _ _ _ went) in
    let below = written_below_room d.writes (on_shelf s) b s.card t.card at (wrote_exactly d.meaning d.lenders d.writes _ _ _ went) in
    record {
      value = value;
      card = shelf_wrote s.places m _ _ b x ok.1 meant held;
      lender = wrote_lenders d.meaning d.lenders d.writes _ _ _ went;
      exact = shelf_writes d.meaning d.writes s _ b x value held below;
    }
