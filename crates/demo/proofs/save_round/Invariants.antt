use Rattle.std.proofs.Common.{ℕ, ◌≤◌, drop, take}
use Rattle.cards.specs.Answers.{MeantWrite, WroteEach}
use Rattle.cards.specs.Meanings.{Meaning}
use Rattle.demo.specs.Standings.{writes_from}
use Rattle.demo.proofs.save_round.Given as goal

-- what the lines that are left of the first n would make of the card, all the first n would
abbrev pub invariant-loop-b : goal.invariant-loop-b
invariant-loop-b g l = (n : ℕ) (m : Meaning) → l.b ≤ n
    → WroteEach MeantWrite (writes_from l.b (drop l.b (take n l.round))) (g.C.Card.meaning l.card) m → WroteEach MeantWrite (writes_from 0 (take n l.round)) (g.C.Card.meaning l.initial.card) m
