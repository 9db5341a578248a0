-- What a shelf holds, and what it means before its card.
use Rattle.std.specs.Prelude.{◌≡◌, ℕ, if◌then◌else◌, List, [], map, length, is_ok}
use Rattle.cards.specs.Answers.{answer, WroteEach}
use Rattle.cards.specs.Blocks.{content}
use Rattle.cards.specs.Meanings.{Content, Meaning}
use Rattle.cards.specs.Shelves.{Held, shelved, stored, written_below}
use Rattle.cards.specs.declared.shelf.Shelf.{Shelf}

-- What a place that is listed holds. Its bytes are 512, which the logic knows only where the code reads the array, so here
-- they are cut or filled.
abbrev pub held : Held → Held
held p = (p.0, content p.1)

abbrev pub held_of : List Held → List Held
held_of ps = map held ps

-- what the places in use hold
abbrev pub on_shelf : {C : Type 0} → Shelf C → List Held
on_shelf s = held_of s.places

-- a shelf, by what its card means
abbrev pub shelf_of : {C : Type 0} → (C → Meaning) → Shelf C → Meaning
shelf_of meaning s = shelved (meaning s.card) (on_shelf s)

-- What a write of x to block b, a barrier and a loss of power make of a shelf, by what its card means and how its card is
-- written to, flushed and cut off.
pub record ShelfWrites {C : Type 0} (meaning : C → Meaning) (writes : C → ℕ → Content → C → Type 0) (s : Shelf C) (b : ℕ) (x : Content) (t : Shelf C) : Type 0 where
  pub places : on_shelf t ≡ (if is_ok (answer (meaning s.card).size b (length x)) then stored (on_shelf s) b x else on_shelf s)
  pub below : WroteEach writes (if is_ok (answer (meaning s.card).size b (length x)) then written_below (on_shelf s) b else []) s.card t.card

pub record ShelfFlushes {C : Type 0} (writes : C → ℕ → Content → C → Type 0) (flushes : C → C → Type 0) (s t : Shelf C) : Type 0 where
  pub places : on_shelf t ≡ []
  pub below : (k : C) × WroteEach writes (on_shelf s) s.card k × flushes k t.card

pub record ShelfLoses {C : Type 0} (loses : C → ℕ → C → Type 0) (s : Shelf C) (pattern : ℕ) (t : Shelf C) : Type 0 where
  pub places : on_shelf t ≡ []
  pub below : loses s.card pattern t.card
