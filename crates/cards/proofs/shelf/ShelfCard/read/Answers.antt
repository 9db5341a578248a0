use Rattle.std.proofs.Common.{◌≡◌, ◌<◌, cond, [], length, get_or, is_ok, Some, sym, ap, ◌∙◌, subst, rules}
use Rattle.std.proofs.lemmas.List.{length-map}
use Rattle.cards.specs.OnShelf.{held_of, on_shelf}
use Rattle.cards.specs.Shelves.{place_of}
use Rattle.cards.proofs.PlacesSearch.{no_place}
use Rattle.cards.proofs.ShelfLaws.{over_at, over_absent}
use Rattle.cards.proofs.ShelfPlaces.{held_at, place_held}
use Rattle.cards.proofs.shelf.ShelfCard.read.Goals as goal

pub returns-in-Some-clause-buffer : goal.returns-in-Some-clause-buffer
returns-in-Some-clause-buffer g c =
    let s = c.args.self.now in
    let b = c.args.b in
    let qs = c.in_use.result.now in
    let i = c.in-Some.i in
    let lt : i < length qs = subst (λ n. i < n) (ap length (sym c.in_use.ensures) ∙ length-map qs _) c.in-Some.ensures.within in
    let at : place_of (on_shelf s) b ≡ Some i = place_held s.places b ∙ sym c.in-Some.ensures.value in
    let taken : c.copy_from_slice.new.self ≡ (get_or qs i no_place).bytes = c.copy_from_slice.ensures.after in
    taken ∙ held_at qs i lt (search rules) ∙ ap (λ ps. (get_or (held_of ps) i (0, [])).1) c.in_use.ensures
    ∙ sym (over_at (on_shelf s) b i ((g.C.Card.meaning s.card).present b) at)

pub returns-in-None-clause-buffer : goal.returns-in-None-clause-buffer
returns-in-None-clause-buffer g c =
    let s = c.args.self.now in
    let b = c.args.b in
    let at = place_held s.places b ∙ sym c.in-None.ensures.value in
    c.read.ensures.buffer ∙ ap (λ y. cond (is_ok c.read.result) y c.args.buffer.now) (sym (over_absent (on_shelf s) b ((g.C.Card.meaning s.card).present b) at))
