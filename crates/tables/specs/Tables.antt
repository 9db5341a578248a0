-- A table block: the words of its entries, and zero words after the last.
use Rattle.std.specs.Prelude.{◌≡◌, ℕ, ◌+◌, ◌<◌, Bool, true, false, if◌then◌else◌, List, [], ◌∷◌, length, is_some, Some, None, Ok, Err, Option, Result, ◌==◌, nat_lt, slice_index}
use Rattle.std.specs.List.{flat_map}
use Rattle.cards.specs.Blocks.{content}
use Rattle.cards.specs.declared.fault.Fault.{Fault}
use Rattle.cards.specs.declared.fault.Fault.TheVariants.{BadWord}
use Rattle.tables.specs.Words.{bytes_of, words}

-- the block whose first words are these: the words after them are zero
abbrev pub block_of : List ℕ → List ℕ
block_of ws = content (flat_map bytes_of ws)

-- Whether w may be word k of a table block of n entries: it stands for an entry, or is a zero word after the last.
abbrev pub good_word : {E : Type 0} → (ℕ → Option E) → ℕ → ℕ → ℕ → Bool
good_word read n k w = if nat_lt k n then is_some (read w) else w == 0

-- the first bad word in a table block of n entries, looked for in its words from number k on
abbrev pub first_bad : {E : Type 0} → (ℕ → Option E) → ℕ → ℕ → List ℕ → Option ℕ
first_bad read n k [] = None
first_bad read n k (w ∷ ws) = if good_word read n k w then first_bad read n (k + 1) ws else Some k

-- refused for the first bad word of card block b, unless there is none
abbrev pub unless_bad : ℕ → Option ℕ → Result (Unit {0}) Fault
unless_bad b None = Ok tt
unless_bad b (Some k) = Err (BadWord b k)

-- what unpacking card block b, which holds these bytes, to n entries answers
abbrev pub unpack_answer : {E : Type 0} → ℕ → (ℕ → Option E) → ℕ → List ℕ → Result (Unit {0}) Fault
unpack_answer b read n bytes = unless_bad b (first_bad read n 0 (words bytes))

-- What that answer says of the words: each is good, or the answer refuses the first one that is not.
abbrev pub Judged : {E : Type 0} → ℕ → (ℕ → Option E) → ℕ → List ℕ → Result (Unit {0}) Fault → Type 0
Judged b read n ws (Ok u) = (j : ℕ) → j < length ws → good_word read n j (slice_index ws j) ≡ true
Judged b read n ws (Err f) =
    (k : ℕ) × (f ≡ BadWord b k) × (k < length ws) × (good_word read n k (slice_index ws k) ≡ false)
    × ((j : ℕ) → j < k → good_word read n j (slice_index ws j) ≡ true)

-- what follows from a word that stands for an entry, and what where it stands for none
abbrev pub on_entry : {E A : Type 0} → Option E → (E → A) → A → A
on_entry (Some e) f x = f e
on_entry None f x = x

-- The entries after the words were taken up: those that the words stand for, up to the first bad word, and from there on
-- those of before.
abbrev pub entries_after : {E : Type 0} → (ℕ → Option E) → List ℕ → List E → List E
entries_after read [] old = old
entries_after read (w ∷ ws) [] = []
entries_after read (w ∷ ws) (o ∷ old) = on_entry (read w) (λ e. e ∷ entries_after read ws old) (o ∷ old)

abbrev pub unpacked : {E : Type 0} → (ℕ → Option E) → List ℕ → List E → List E
unpacked read bytes old = entries_after read (words bytes) old

-- The block unpacks to these entries: into as many, whatever stood there before, and with no word refused.
abbrev pub UnpacksTo : {E : Type 0} → (ℕ → Option E) → List E → List ℕ → Type 0
UnpacksTo {E} read es bytes =
    (old : List E) → length old ≡ length es → (first_bad read (length old) 0 (words bytes) ≡ None) × (unpacked read bytes old ≡ es)
