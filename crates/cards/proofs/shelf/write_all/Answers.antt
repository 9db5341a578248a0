use Rattle.std.proofs.Common.{◌≡◌, length, get_or, rules}
use Rattle.cards.specs.Answers.{CardWrite}
use Rattle.cards.proofs.BlockLaws.{content_is}
use Rattle.cards.proofs.Sequences.{wrote_push}
use Rattle.cards.proofs.PlacesSearch.{no_place}
use Rattle.cards.proofs.ShelfPlaces.{held_more}
use Rattle.cards.proofs.shelf.write_all.Goals as goal

pub loop-place-preserved : goal.loop-place-preserved
loop-place-preserved g c =
    let one = CardWrite g.C.Card.meaning g.C.Card.lenders g.C.Card.writes in
    let ps = c.args.places.now in
    let i = c.loop-place.place-index in
    let p = get_or ps i no_place in
    let w = c.write.ensures in
    let whole : length p.bytes ≡ 512 = search rules in
    let written : one c.loop-place.card p.block p.bytes c.write.new.self = (w.exact, search rules, w.lender) in
    rw (held_more ps i c.loop-place-test.true) (wrote_push one _ _ _ _ _ c.loop-place.invariant (rw (content_is p.bytes whole) written))
