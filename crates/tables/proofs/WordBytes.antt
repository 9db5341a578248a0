-- Words and their bytes, there and back.
use Rattle.std.proofs.Common.{◌≡◌, ℕ, zero, suc, ◌+◌, ◌-◌, ◌*◌, ◌/◌, ◌%◌, ◌^◌, ◌<◌, ◌≤◌, List, [], ◌∷◌, ◌++◌, length, slice_index, drop, replicate, sym, refl, ap, ◌∙◌, ap₂, mod-eq_of_lt, arith}
use Rattle.std.proofs.Math.Nat.{div-div-eq-div-mul}
use Rattle.std.proofs.lemmas.Nat.{div-add-mod', mod-mul-add, div_below}
use Rattle.std.specs.List.{flat_map, AllByRecursion}
use Rattle.tables.specs.Words.{bytes_of, word_from, words}

-- the first word of a run of bytes, and the words after it
pub words_four : (xs : List ℕ) → 4 ≤ length xs → words xs ≡ word_from (slice_index xs 0) (slice_index xs 1) (slice_index xs 2) (slice_index xs 3) ∷ words (drop 4 xs)
words_four [] h = absurd (omega arith)
words_four (a ∷ []) h = absurd (omega arith)
words_four (a ∷ b ∷ []) h = absurd (omega arith)
words_four (a ∷ b ∷ c ∷ []) h = absurd (omega arith)
words_four (a ∷ b ∷ c ∷ d ∷ rest) h = refl

-- A quotient by 65536 or 16777216 in steps of 256.
by_two : (w : ℕ) → w / 65536 ≡ w / 256 / 256
by_two w = sym (div-div-eq-div-mul w 256 256)

by_three : (w : ℕ) → w / 16777216 ≡ w / 256 / 256 / 256
by_three w = sym (div-div-eq-div-mul w 65536 256) ∙ ap (λ q. q / 256) (by_two w)

mixed : (w p q s a b c : ℕ) → p * 256 + a ≡ w → q * 256 + b ≡ p → s * 256 + c ≡ q → word_from a b c s ≡ w
mixed w p q s a b c x y z = omega arith

-- A word is the word of its bytes.
word_of_bytes : (w : ℕ) → w < 2 ^ 32 → word_from (w % 256) (w / 256 % 256) (w / 65536 % 256) (w / 16777216 % 256) ≡ w
word_of_bytes w h =
    let small : w / 256 / 256 / 256 < 256 = div_below _ 256 256 (omega arith) (div_below _ 256 65536 (omega arith) (div_below w 256 16777216 (omega arith) (omega arith))) in
    let top : w / 256 / 256 / 256 % 256 ≡ w / 256 / 256 / 256 = mod-eq_of_lt small in
    rw (by_two w, by_three w, top)
    (mixed w (w / 256) (w / 256 / 256) (w / 256 / 256 / 256) (w % 256) (w / 256 % 256) (w / 256 / 256 % 256) (div-add-mod' w 256) (div-add-mod' (w / 256) 256) (div-add-mod' (w / 256 / 256) 256))

-- Four bytes are the bytes of their word.
bytes_of_word : (a b c d : ℕ) → a < 256 → b < 256 → c < 256 → d < 256 → bytes_of (word_from a b c d) ≡ a ∷ b ∷ c ∷ d ∷ []
bytes_of_word a b c d ha hb hc hd =
    let q1 : word_from a b c d / 256 ≡ b + c * 256 + d * 65536 = omega arith in
    let q2 : word_from a b c d / 65536 ≡ c + d * 256 = by_two (word_from a b c d) ∙ omega arith in
    let q3 : word_from a b c d / 16777216 ≡ d = by_three (word_from a b c d) ∙ omega arith in
    let f0 : word_from a b c d ≡ (b + c * 256 + d * 65536) * 256 + a = omega arith in
    let f1 : b + c * 256 + d * 65536 ≡ (c + d * 256) * 256 + b = omega arith in
    let f2 : c + d * 256 ≡ d * 256 + c = omega arith in
    let e0 : word_from a b c d % 256 ≡ a = ap (λ n. n % 256) f0 ∙ mod-mul-add (b + c * 256 + d * 65536) 256 a ha in
    let e1 : word_from a b c d / 256 % 256 ≡ b = ap (λ n. n % 256) (q1 ∙ f1) ∙ mod-mul-add (c + d * 256) 256 b hb in
    let e2 : word_from a b c d / 65536 % 256 ≡ c = ap (λ n. n % 256) (q2 ∙ f2) ∙ mod-mul-add d 256 c hc in
    let e3 : word_from a b c d / 16777216 % 256 ≡ d = ap (λ n. n % 256) q3 ∙ mod-eq_of_lt hd in
    cc

word_below : (a b c d : ℕ) → a < 256 → b < 256 → c < 256 → d < 256 → word_from a b c d < 2 ^ 32
word_below a b c d ha hb hc hd = omega arith

-- The words of words' bytes, and the bytes of bytes' words.
pub words_joined : (ws rest : List ℕ) → AllByRecursion (λ w. w < 2 ^ 32) ws → words (flat_map bytes_of ws ++ rest) ≡ ws ++ words rest
words_joined [] rest h = refl
words_joined (w ∷ ws) rest h = ap₂ ◌∷◌ (word_of_bytes w h.0) (words_joined ws rest h.1)

pub joined_words : (k : ℕ) (bs : List ℕ) → length bs ≡ 4 * k → AllByRecursion (λ b. b < 256) bs → flat_map bytes_of (words bs) ≡ bs
joined_words k [] e h = refl
joined_words k (a ∷ []) e h = absurd (omega arith)
joined_words k (a ∷ b ∷ []) e h = absurd (omega arith)
joined_words k (a ∷ b ∷ c ∷ []) e h = absurd (omega arith)
joined_words k (a ∷ b ∷ c ∷ d ∷ bs) e h =
    ap₂ ◌++◌ (bytes_of_word a b c d h.0 h.1.0 h.1.1.0 h.1.1.1.0) (joined_words (k - 1) bs (omega arith) h.1.1.1.1)

pub words_below : (bs : List ℕ) → AllByRecursion (λ b. b < 256) bs → AllByRecursion (λ w. w < 2 ^ 32) (words bs)
words_below [] h = tt
words_below (a ∷ []) h = tt
words_below (a ∷ b ∷ []) h = tt
words_below (a ∷ b ∷ c ∷ []) h = tt
words_below (a ∷ b ∷ c ∷ d ∷ bs) h =
    (word_below a b c d h.0 h.1.0 h.1.1.0 h.1.1.1.0, words_below bs h.1.1.1.1)

pub length-words : (k : ℕ) (bs : List ℕ) → length bs ≡ 4 * k → length (words bs) ≡ k
length-words k [] e = omega arith
length-words k (a ∷ []) e = absurd (omega arith)
length-words k (a ∷ b ∷ []) e = absurd (omega arith)
length-words k (a ∷ b ∷ c ∷ []) e = absurd (omega arith)
length-words k (a ∷ b ∷ c ∷ d ∷ bs) e = let r = length-words (k - 1) bs (omega arith) in omega arith

-- Zeros are the bytes of zero words.
pub words_zeros : (k n : ℕ) → n ≡ 4 * k → words (replicate n 0) ≡ replicate k 0
words_zeros zero n e = let z : n ≡ 0 = omega arith in simp z
words_zeros (suc k) n e =
    let z : n ≡ suc (suc (suc (suc (4 * k)))) = omega arith in
    simp z (ap (λ xs. 0 ∷ xs) (words_zeros k (4 * k) refl))

pub joined-zeros : (k n : ℕ) → n ≡ 4 * k → flat_map bytes_of (replicate k 0) ≡ replicate n 0
joined-zeros zero n e = let z : n ≡ 0 = omega arith in simp z
joined-zeros (suc k) n e =
    let z : n ≡ suc (suc (suc (suc (4 * k)))) = omega arith in
    simp z (ap (λ xs. 0 ∷ 0 ∷ 0 ∷ 0 ∷ xs) (joined-zeros k (4 * k) refl))
