-- What the bytes of a write-back card hold after a block was saved.
use Rattle.std.specs.Prelude.{◌≡◌, ℕ, List, is_ok, MatchBool, Result}
use Rattle.cards.specs.declared.fault.Fault.{Fault}
use Rattle.cards.specs.Meanings.{Content}
use Rattle.cards.specs.WriteBackCards.{fresh, back_write, Settled}

-- A write of c to block b and a barrier, answered by r, turned xs into ys: both copies of every block are then its fresh
-- copy after the write. Where the write was refused nothing changed.
abbrev pub SavedBytes : Result (Unit {0}) Fault → List ℕ → ℕ → Content → List ℕ → Type 0
SavedBytes r xs b c ys = MatchBool (is_ok r) (Settled (fresh (back_write xs b c)) (back_write xs b c) ys) (ys ≡ xs)
