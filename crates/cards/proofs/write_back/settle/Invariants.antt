use Rattle.std.proofs.Common.{ℕ}
use Rattle.cards.specs.Meanings.{Content}
use Rattle.cards.specs.WriteBackCards.{Chosen}
use Rattle.cards.proofs.WriteBackLaws.{Midway}
use Rattle.cards.proofs.write_back.settle.Given as goal

abbrev pub invariant-loop-b : goal.invariant-loop-b
invariant-loop-b g l = (f : ℕ → Content) → Chosen (goal.F-post g l.stays) l.initial.bytes f → Midway f l.initial.bytes l.bytes l.b
