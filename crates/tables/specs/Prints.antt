-- A print has 30 bits. These are proofs and define nothing; they stand here because the implementations of `Rule` cite
-- them, each as its law `small`.
use Rattle.std.specs.Prelude.{ℕ, ◌/◌, ◌%◌, ◌^◌, ◌<◌, List, [], ◌∷◌, fold}
use Rattle.std.proofs.Common.{arith}
use Rattle.std.proofs.lemmas.Nat.{xor_lt, mod_below}
use Rattle.tables.specs.Words.{words}
use Rattle.tables.specs.Rules.{fold_30, mix_byte, add_word, fnv_1a, word_sum}

fold_below : (hash : ℕ) → hash < 2 ^ 32 → fold_30 hash < 2 ^ 30
fold_below hash l = xor_lt 30 (hash / 2 ^ 30) (hash % 2 ^ 30) (omega arith) (omega arith)

folded_below : (step : ℕ → ℕ → ℕ) → ((h x : ℕ) → step h x < 2 ^ 32) → (h : ℕ) → h < 2 ^ 32 → (xs : List ℕ) → fold step h xs < 2 ^ 32
folded_below step small h l [] = l
folded_below step small h l (x ∷ xs) = folded_below step small (step h x) (small h x) xs

pub fnv_below : (bytes : List ℕ) → fold_30 (fnv_1a bytes) < 2 ^ 30
fnv_below bytes = fold_below (fnv_1a bytes) (folded_below mix_byte (λ h x. mod_below _ (2 ^ 32) (omega arith)) 2166136261 (omega arith) bytes)

pub sum_below : (bytes : List ℕ) → fold_30 (word_sum bytes) < 2 ^ 30
sum_below bytes = fold_below (word_sum bytes) (folded_below add_word (λ h x. mod_below _ (2 ^ 32) (omega arith)) 0 (omega arith) (words bytes))
