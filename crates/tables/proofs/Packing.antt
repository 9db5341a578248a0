-- The words of entries, as the bytes of a block.
use Rattle.std.proofs.Common.{◌≡◌, ℕ, suc, ◌+◌, ◌-◌, ◌*◌, ◌<◌, ◌≤◌, ◌⊎◌, List, [], ◌∷◌, ◌++◌, length, slice_index, slice_index_or, slice_set, take, replicate, sym, refl, ap, ◌∙◌, inl, inr, ⊎_elim, arith, below_more}
use Rattle.std.proofs.lemmas.Bool.{cases_lt}
use Rattle.std.proofs.lemmas.List.{length-set, length-replicate, get_or-replicate, get_or-set_same, get_or-set_other, get_or_past}
use Rattle.std.specs.List.{flat_map}
use Rattle.cards.proofs.BlockLaws.{content_filled}
use Rattle.tables.specs.Words.{bytes_of}
use Rattle.tables.specs.Tables.{block_of}

pub length-joined : (ws : List ℕ) → length (flat_map bytes_of ws) ≡ 4 * length ws
length-joined [] = refl
length-joined (w ∷ ws) = let r = length-joined ws in omega arith

pub block_is : (ws : List ℕ) → length ws ≤ 128 → block_of ws ≡ flat_map bytes_of ws ++ replicate (512 - 4 * length ws) 0
block_is ws few = content_filled (flat_map bytes_of ws) _ (omega (arith, length-joined ws)) (ap (λ n. 512 - n) (sym (length-joined ws)))

-- One run more, before those that the words after it come to.
run_zero : (run rest : List ℕ) (n m k j : ℕ) → n ≡ suc (suc (suc (suc k))) → m ≡ suc (suc (suc (suc j))) → run ≡ bytes_of 0 → rest ≡ take k (replicate j 0) → run ++ rest ≡ take n (replicate m 0)
run_zero run rest n m k j z y f r = simp (z, y, f) (ap (λ xs. bytes_of 0 ++ xs) r)

run_word : (run rest xs : List ℕ) (w n k : ℕ) → n ≡ suc (suc (suc (suc k))) → run ≡ bytes_of w → rest ≡ take k xs → run ++ rest ≡ take n (bytes_of w ++ xs)
run_word run rest xs w n k z f r = simp (z, f) (ap (λ ys. bytes_of w ++ ys) r)

-- Runs of four bytes, each of them the bytes of a word, blank after the last of the words ws.
pub joined_runs : (runs : List (List ℕ)) (ws : List ℕ) (n m : ℕ) → n ≡ 4 * length runs → n ≤ m → ((i : ℕ) → i < length runs → slice_index_or runs i [] ≡ bytes_of (slice_index ws i))
    → flat_map (λ run. run) runs ≡ take n (flat_map bytes_of ws ++ replicate m 0)
joined_runs [] ws n m e l h = let z : n ≡ 0 = omega arith in simp z
joined_runs (run ∷ runs) [] n m e l h =
    run_zero run (flat_map (λ r. r) runs) n m (n - 4) (m - 4) (omega arith) (omega arith) (h 0 (omega arith)) (joined_runs runs [] (n - 4) (m - 4) (omega arith) (omega arith) (λ i lt. h (suc i) (omega arith)))
joined_runs (run ∷ runs) (w ∷ ws) n m e l h =
    run_word run (flat_map (λ r. r) runs) (flat_map bytes_of ws ++ replicate m 0) w n (n - 4) (omega arith) (h 0 (omega arith)) (joined_runs runs ws (n - 4) m (omega arith) (omega arith) (λ i lt. h (suc i) (omega arith)))

-- The words of a block once those of the first i entries stand in it; the words after them are blank.
pub record Packed (ws : List ℕ) (i : ℕ) (runs : List (List ℕ)) : Type 0 where
  pub whole : length runs ≡ 128
  pub done : (k : ℕ) → k < i → slice_index_or runs k [] ≡ bytes_of (slice_index ws k)
  pub blank : (k : ℕ) → i ≤ k → k < 128 → slice_index_or runs k [] ≡ bytes_of 0

pub packed_none : (ws : List ℕ) → Packed ws 0 (replicate 128 (bytes_of 0))
packed_none ws = record {
  whole = length-replicate 128 (bytes_of 0);
  done = λ k lt. absurd (omega arith);
  blank = λ k le lt. get_or-replicate 128 k (bytes_of 0) [] lt;
}

pub packed_more : (ws : List ℕ) (i : ℕ) (runs : List (List ℕ)) (run : List ℕ) → i < 128 → run ≡ bytes_of (slice_index ws i) → Packed ws i runs → Packed ws (i + 1) (slice_set runs i run)
packed_more ws i runs run lt is p =
    let inside : i < length runs = omega (arith, p.whole) in
    record {
      whole = length-set runs i run ∙ p.whole;
      done = below_more (λ k. slice_index_or (slice_set runs i run) k [] ≡ bytes_of (slice_index ws k)) i
          (λ k l. get_or-set_other runs i k run [] (λ e. omega arith) ∙ p.done k l)
          (get_or-set_same runs i run [] inside ∙ is);
      blank = λ k le l. get_or-set_other runs i k run [] (λ e. omega arith) ∙ p.blank k (omega arith) l;
    }

-- Once all entries, or as many as a block has words, are packed, the bytes are those of the block.
pub packed_all : (ws : List ℕ) (i : ℕ) (runs : List (List ℕ)) → (128 ≤ i) ⊎ (length ws ≤ i) → Packed ws i runs → flat_map (λ run. run) runs ≡ block_of ws
packed_all ws i runs all p =
    joined_runs runs ws 512 512 (omega (arith, p.whole)) (omega arith)
    (λ k lt. elim (cases_lt k i) [
      | inl l ↦ p.done k l
      | inr le ↦ p.blank k le (omega (arith, p.whole)) ∙ ap bytes_of (sym (get_or_past ws k 0 (⊎_elim (λ m. absurd (omega (arith, p.whole))) (λ m. omega arith) all)))
    ])
