-- What a card answers to a read or a write, and what writes leave.
use Rattle.std.specs.Prelude.{◌≡◌, ℕ, if◌then◌else◌, List, [], ◌∷◌, length, is_ok, Ok, Err, MatchBool, Result, ◌==◌, nat_lt}
use Rattle.cards.specs.declared.fault.Layer.TheVariants.{Card}
use Rattle.cards.specs.declared.fault.Fault.{Fault}
use Rattle.cards.specs.declared.fault.Fault.TheVariants.{BufferLength, CardBlock}
use Rattle.cards.specs.Lenders.{Names}
use Rattle.cards.specs.Meanings.{Content, Meaning, Wrote}

-- a card of the given size, at block b with a buffer of n bytes: first the buffer is tested, then the block
abbrev pub answer : ℕ → ℕ → ℕ → Result (Unit {0}) Fault
answer size b n = if n == 512 then (if nat_lt b size then Ok tt else Err (CardBlock b)) else Err (BufferLength Card n)

-- a write of c to block b that was answered by r turned m into n; where it was refused nothing changed
abbrev pub Written : Result (Unit {0}) Fault → Meaning → ℕ → Content → Meaning → Type 0
Written r m b c n = MatchBool (is_ok r) (Wrote m b c n) (n ≡ m)

-- a write, by what a card means before and after it
abbrev pub MeantWrite : Meaning → ℕ → Content → Meaning → Type 0
MeantWrite m b c n = Written (answer m.size b (length c)) m b c n

-- a write with all that a card says of it: what it does to a card of its make, what it means, and that the lenders stay
abbrev pub CardWrite : {S : Type 0} → (S → Meaning) → (S → Names) → (S → ℕ → Content → S → Type 0) → S → ℕ → Content → S → Type 0
CardWrite meaning lenders writes c b x d = writes c b x d × MeantWrite (meaning c) b x (meaning d) × (lenders d ≡ lenders c)

-- a card went from c to d by one write for each block number and content of the list, in order, and by nothing else
abbrev pub WroteEach : {S : Type 0} → (S → ℕ → Content → S → Type 0) → List (ℕ × Content) → S → S → Type 0
WroteEach {S} writes [] c d = d ≡ c
WroteEach {S} writes (h ∷ hs) c d = (k : S) × writes c h.0 h.1 k × WroteEach writes hs k d

-- A card went from c to d by a write of x to block b, and, if r did not refuse that, by a barrier. What each of these does is
-- what the make of card says.
abbrev pub Saved : {S : Type 0} → (S → ℕ → Content → S → Type 0) → (S → S → Type 0) → Result (Unit {0}) Fault → ℕ → Content → S → S → Type 0
Saved {S} writes flushes r b x c d = MatchBool (is_ok r) ((j : S) × writes c b x j × flushes j d) (writes c b x d)

-- A card went from c to d by a write of x to block b, and, if r did not refuse that, by a barrier and then a loss of power
-- under the pattern. What each of these does is what the make of card says.
abbrev pub SavedThenLost : {S : Type 0} → (S → ℕ → Content → S → Type 0) → (S → S → Type 0) → (S → ℕ → S → Type 0) → Result (Unit {0}) Fault → ℕ → Content → ℕ → S → S → Type 0
SavedThenLost {S} writes flushes loses r b x pattern c d =
    MatchBool (is_ok r) ((j k : S) × writes c b x j × flushes j k × loses k pattern d) (writes c b x d)
