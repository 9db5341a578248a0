use Rattle.std.proofs.Common.{take}
use Rattle.cards.specs.Answers.{CardWrite, WroteEach}
use Rattle.cards.specs.OnShelf.{held_of}
use Rattle.cards.specs.Places.{listed}
use Rattle.cards.proofs.shelf.write_all.Given as goal

abbrev pub invariant-loop-place : goal.invariant-loop-place
invariant-loop-place g l =
    let c = g.C.Card in
    WroteEach (CardWrite c.meaning c.lenders c.writes) (held_of (listed (take l.place-index l.places))) l.initial.card l.card
