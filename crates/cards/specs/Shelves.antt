-- The shelf: a few writes held back before a card. It has four places; a place holds a block number and a content. A shelf
-- never has two places of one block, but the definitions do not lean on that: where there were two, the later one counts.
use Rattle.std.specs.Prelude.{ℕ, suc, Bool, true, false, if◌then◌else◌, List, [], ◌∷◌, ◌++◌, length, Some, None, Option, ◌==◌, nat_lt, slice_set}
use Rattle.cards.specs.Meanings.{Content, Meaning}

-- what a place in use holds
abbrev pub Held : Type 0
Held = ℕ × Content

-- x, with the contents that the places hold of block b added by f, one after another in place order
abbrev pub overlaid : {A : Type 0} → (Content → A → A) → List Held → ℕ → A → A
overlaid f [] b x = x
overlaid f (h ∷ hs) b x = overlaid f hs b (if h.0 == b then f h.1 x else x)

-- A shelf that holds hs before a card that means m. A block on the shelf is present with its place's bytes, and its doubt
-- is the doubt below with those bytes added.
abbrev pub shelved : Meaning → List Held → Meaning
shelved m hs = record {
  size = m.size;
  present = λ b. overlaid (λ c x. c) hs b (m.present b);
  doubt = λ b. overlaid ◌∷◌ hs b (m.doubt b);
}

-- the place of block b in a list, given whether the head holds b and where b is in the rest
abbrev pub place_from : Bool → Option ℕ → Option ℕ
place_from t (Some i) = Some (suc i)
place_from true None = Some 0
place_from false None = None

-- the place of block b, the last if there are several
abbrev pub place_of : List Held → ℕ → Option ℕ
place_of [] b = None
place_of (h ∷ hs) b = place_from (h.0 == b) (place_of hs b)

-- Room for one block more: a shelf with four blocks on it is emptied, and they are written below. What stays on the
-- shelf, and what goes below.
abbrev pub stays : List Held → List Held
stays hs = if nat_lt (length hs) 4 then hs else []

abbrev pub goes : List Held → List Held
goes hs = if nat_lt (length hs) 4 then [] else hs

-- what the places hold after a write of c to block b: it replaces the block's place, or takes the next empty one
abbrev pub stored_at : Option ℕ → List Held → ℕ → Content → List Held
stored_at (Some i) hs b c = slice_set hs i (b, c)
stored_at None hs b c = stays hs ++ (b, c) ∷ []

abbrev pub stored : List Held → ℕ → Content → List Held
stored hs b c = stored_at (place_of hs b) hs b c

-- what such a write first writes to the card below
abbrev pub written_below_at : Option ℕ → List Held → List Held
written_below_at (Some i) hs = []
written_below_at None hs = goes hs

abbrev pub written_below : List Held → ℕ → List Held
written_below hs b = written_below_at (place_of hs b) hs
