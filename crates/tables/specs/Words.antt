-- A word of a table: 32 bits, of which the top two are its kind and the low thirty its value. The zero word is blank.
use Rattle.std.specs.Prelude.{◌≡◌, ℕ, ◌+◌, ◌*◌, ◌/◌, ◌%◌, ◌^◌, Bool, if◌then◌else◌, List, [], ◌∷◌, length, drop, Some, None, Option, ◌==◌}
use Rattle.tables.specs.declared.word.Kind.{Kind}
use Rattle.tables.specs.declared.word.Kind.TheVariants.{Plain, Link, Count, Print}

abbrev pub kind_number : Kind → ℕ
kind_number Plain = 0
kind_number Link = 1
kind_number Count = 2
kind_number Print = 3

-- whether a word is of a kind
abbrev pub of_kind : Kind → ℕ → Bool
of_kind k w = w / 2 ^ 30 == kind_number k

abbrev pub value_of : ℕ → ℕ
value_of w = w % 2 ^ 30

-- the value of a word, if the word is of this kind
abbrev pub value_if : Kind → ℕ → Option ℕ
value_if k w = if of_kind k w then Some (value_of w) else None

-- the word of a kind and a value
abbrev pub word_of : Kind → ℕ → ℕ
word_of k v = kind_number k * 2 ^ 30 + v % 2 ^ 30

-- the four bytes of a word, the lowest first
abbrev pub bytes_of : ℕ → List ℕ
bytes_of w = w % 256 ∷ w / 256 % 256 ∷ w / 65536 % 256 ∷ w / 16777216 % 256 ∷ []

-- the word of four bytes
abbrev pub word_from : ℕ → ℕ → ℕ → ℕ → ℕ
word_from a b c d = a + b * 256 + c * 65536 + d * 16777216

-- the words of a run of bytes, four bytes to each; one to three bytes at the end are no word
abbrev pub words : List ℕ → List ℕ
words [] = []
words (a ∷ []) = []
words (a ∷ b ∷ []) = []
words (a ∷ b ∷ c ∷ []) = []
words (a ∷ b ∷ c ∷ d ∷ rest) = word_from a b c d ∷ words rest

-- The bytes begin with a word, and the rest comes after it.
pub record Begins (bytes : List ℕ) (w : ℕ) (rest : List ℕ) : Type 0 where
  pub after : rest ≡ drop 4 bytes
  pub shorter : length rest + 4 ≡ length bytes
  pub first : words bytes ≡ w ∷ words rest
