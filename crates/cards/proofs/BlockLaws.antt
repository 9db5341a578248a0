-- One block of a run of blocks, after a block was written.
use Rattle.std.proofs.Common.{◌≡◌, ℕ, ◌+◌, ◌-◌, ◌*◌, ◌<◌, ◌≤◌, min, List, ◌++◌, length, take, drop, replicate, sym, ap, ◌∙◌, inl, inr, append_assoc, arith, length-append, length-drop, length-take}
use borrow.Rule.Slice.PartMut.{put_mid}
use Rattle.std.proofs.Math.Seq.{paste}
use Rattle.std.proofs.lemmas.Slice.{take-put_mid_below, drop-put_mid}
use Rattle.std.proofs.lemmas.List.{drop-take, drop-drop, drop_at, take_at, length-take-le, replicate-append-replicate, append-nil, drop-replicate, length-replicate, take_all, take-append-le}
use Rattle.std.proofs.lemmas.Bool.{cases_order, cases_lt}
use Rattle.cards.specs.Blocks.{content, block_at, put_block}

-- 512 bytes are a content as they are
pub content_is : (xs : List ℕ) → length xs ≡ 512 → content xs ≡ xs
content_is xs whole = take_at xs (replicate 512 0) 512 whole

-- fewer bytes are filled up with zeros
pub content_filled : (xs : List ℕ) (n : ℕ) → length xs ≤ 512 → n ≡ 512 - length xs → content xs ≡ xs ++ replicate n 0
content_filled xs n few e =
    let whole : 512 ≡ n + (512 - n) = omega arith in
    let zeros : ◌≡◌ {A = List ℕ} (replicate 512 0) (replicate n 0 ++ replicate (512 - n) 0) = ap (λ k. replicate k 0) whole ∙ sym (replicate-append-replicate n (512 - n) 0) in
    ap (λ zs. take 512 (xs ++ zs)) zeros
    ∙ ap (take 512) (sym (append_assoc xs (replicate n 0) (replicate (512 - n) 0)))
    ∙ take_at (xs ++ replicate n 0) (replicate (512 - n) 0) 512 (simp (length-append, length-replicate) (omega arith))

-- what a copy of as many bytes as fit over a block of zeros leaves
pub content_cut : (xs : List ℕ) (n : ℕ) → n ≡ min (length xs) 512 → take n xs ++ drop n (replicate 512 0) ≡ content xs
content_cut xs n e =
    ap (λ zs. take n xs ++ zs) (drop-replicate n 512 0)
    ∙ elim (cases_lt 512 (length xs)) [
      | inl lt ↦
          let whole : n ≡ 512 = omega arith in
          ap (λ k. take k xs ++ replicate (512 - k) 0) whole ∙ append-nil (take 512 xs) ∙ sym (take-append-le 512 xs (replicate 512 0) (omega arith))
      | inr le ↦
          let all : n ≡ length xs = omega arith in
          ap (λ ys. ys ++ replicate (512 - n) 0) (take_all n xs (omega arith)) ∙ sym (content_filled xs (512 - n) le (ap (λ k. 512 - k) all))
    ]

-- what a copy of one block's bytes over another's leaves
pub copied_block_is : (xs : List ℕ) (from to k : ℕ) → k ≡ 512 → paste xs (to * 512) (drop (from * 512) xs) k ≡ put_block xs to (block_at xs from)
copied_block_is xs from to k e =
    ap (paste xs (to * 512) (drop (from * 512) xs)) e
    ∙ append_assoc (take (to * 512) xs) (block_at xs from) (drop (to * 512 + 512) xs)

module _ (xs c : List ℕ) (p : ℕ) (whole : length c ≡ 512) (within : p * 512 + 512 ≤ length xs) where
  pub length-put_block : length (put_block xs p c) ≡ length xs
  length-put_block = simp (length-append, length-take, length-drop) (omega arith)

  pub block_at-put_block : block_at (put_block xs p c) p ≡ c
  block_at-put_block =
      ap (take 512) (drop_at (take (p * 512) xs) (c ++ drop (p * 512 + 512) xs) (p * 512) (length-take-le (p * 512) xs (omega arith)))
      ∙ take_at c (drop (p * 512 + 512) xs) 512 whole

  as_part : put_block xs p c ≡ put_mid (p * 512) 512 xs c
  as_part = ap (λ zs. take (p * 512) xs ++ (c ++ zs)) (sym (drop-drop 512 (p * 512) xs))

  -- the bytes from n on, past the block
  pub drop-put_block : (n : ℕ) → p * 512 + 512 ≤ n → drop n (put_block xs p c) ≡ drop n xs
  drop-put_block n past = ap (drop n) as_part ∙ drop-put_mid (p * 512) 512 xs c n past (omega arith) whole

  below : (q : ℕ) → q < p → block_at (put_block xs p c) q ≡ block_at xs q
  below q lt =
      ap (λ zs. block_at zs q) as_part
      ∙ sym (drop-take (q * 512) 512 (put_mid (p * 512) 512 xs c))
      ∙ ap (drop (q * 512)) (take-put_mid_below (p * 512) 512 xs c (q * 512 + 512) (omega arith) (omega arith))
      ∙ drop-take (q * 512) 512 xs

  pub block_at-put_block_other : (q : ℕ) → (q ≡ p → ⊥) → block_at (put_block xs p c) q ≡ block_at xs q
  block_at-put_block_other q ne = elim (cases_order q p) [
    | inl same ↦ absurd (ne same)
    | inr way ↦ elim way [ inl lt ↦ below q lt | inr lt ↦ ap (take 512) (drop-put_block (q * 512) (omega arith)) ]
  ]
