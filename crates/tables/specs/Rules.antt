-- The fingerprint rules: a hash of 32 bits, folded to 30.
use Rattle.std.specs.Prelude.{ℕ, ◌+◌, ◌*◌, ◌/◌, ◌%◌, ◌^◌, List, fold, bit_xor}
use Rattle.tables.specs.Words.{words}

-- a hash folded to 30 bits: its top two bits, as a number, are mixed into the low thirty by exclusive or
abbrev pub fold_30 : ℕ → ℕ
fold_30 hash = bit_xor (hash / 2 ^ 30) (hash % 2 ^ 30)

-- the rules' numbers
abbrev pub fnv_number : ℕ
fnv_number = 1

abbrev pub sum_number : ℕ
sum_number = 2

-- Rule 1 is FNV-1a: each byte in turn is mixed in by exclusive or, and then multiplication.
abbrev pub mix_byte : ℕ → ℕ → ℕ
mix_byte hash byte = bit_xor hash byte * 16777619 % 2 ^ 32

abbrev pub fnv_1a : List ℕ → ℕ
fnv_1a bytes = fold mix_byte 2166136261 bytes

-- Rule 2 is the sum of the words. Bytes that fill no word are left out; a block has none.
abbrev pub add_word : ℕ → ℕ → ℕ
add_word sum word = (sum + word) % 2 ^ 32

abbrev pub word_sum : List ℕ → ℕ
word_sum bytes = fold add_word 0 (words bytes)
