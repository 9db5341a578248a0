-- Entries to a block and back, a block to entries and back, and what the answer of unpacking says.
use Rattle.std.proofs.Common.{◌≡◌, ℕ, zero, suc, ◌+◌, ◌-◌, ◌*◌, ◌^◌, ◌<◌, ◌≤◌, true, false, cond, List, [], ◌∷◌, ◌++◌, map, length, slice_index, replicate, is_some, Some, None, Ok, Option, Result, sym, refl, ap, ◌∙◌, subst, ap₂, arith}
use Rattle.std.proofs.ByRecursion.{All-map, All-from_get_or}
use Rattle.std.proofs.lemmas.List.{length-map}
use Rattle.std.proofs.lemmas.Bool.{eqb-true}
use Rattle.std.proofs.lemmas.Grind.{flat_map-append}
use Rattle.std.specs.List.{flat_map, AllByRecursion}
use Rattle.cards.specs.declared.fault.Fault.{Fault}
use Rattle.cards.specs.declared.fault.Fault.TheVariants.{BadWord}
use Rattle.tables.specs.Words.{bytes_of, words}
use Rattle.tables.specs.Tables.{block_of, good_word, first_bad, unless_bad, unpack_answer, Judged, on_entry, entries_after, unpacked, UnpacksTo}
use Rattle.tables.proofs.Packing.{block_is}
use Rattle.tables.proofs.Unpacking.{none_filled, good_before, good_after}
use Rattle.tables.proofs.WordBytes.{words_joined, joined_words, words_below, length-words, words_zeros, joined-zeros}

pub words_block : (ws : List ℕ) → length ws ≤ 128 → AllByRecursion (λ w. w < 2 ^ 32) ws → words (block_of ws) ≡ ws ++ replicate (128 - length ws) 0
words_block ws few small =
    ap words (block_is ws few) ∙ words_joined ws _ small ∙ ap (λ xs. ws ++ xs) (words_zeros (128 - length ws) (512 - 4 * length ws) (omega arith))

pub block_from_words : (ws bs : List ℕ) → length bs ≡ 512 → length ws ≤ 128 → AllByRecursion (λ b. b < 256) bs → words bs ≡ ws ++ replicate (128 - length ws) 0 → bs ≡ block_of ws
block_from_words ws bs l few h e =
    sym (joined_words 128 bs (omega arith) h) ∙ ap (flat_map bytes_of) e ∙ flat_map-append bytes_of ws _
    ∙ ap (λ xs. flat_map bytes_of ws ++ xs) (joined-zeros (128 - length ws) (512 - 4 * length ws) (omega arith)) ∙ sym (block_is ws few)

module _ {E : Type 0} (packed : E → ℕ) (read : ℕ → Option E) where
  zero_tail : (m n k : ℕ) → n ≤ k → first_bad read n k (replicate m 0) ≡ None
  zero_tail zero n k h = refl
  zero_tail (suc m) n k h =
      ap (λ t. cond t (first_bad read n (k + 1) (replicate m 0)) (Some k)) (good_after read n k 0 h) ∙ zero_tail m n (k + 1) (omega arith)

  -- Packed entries, from number k on, unpack to themselves.
  unpack_packed : (es old : List E) (m n k : ℕ) → n ≡ k + length es → length old ≡ length es → AllByRecursion (λ e. read (packed e) ≡ Some e) es
      → (first_bad read n k (map packed es ++ replicate m 0) ≡ None) × (entries_after read (map packed es ++ replicate m 0) old ≡ es)
  unpack_packed [] [] m n k e l h = (zero_tail m n k (omega arith), none_filled read (replicate m 0))
  unpack_packed [] (o ∷ old) m n k e l h = absurd (omega arith)
  unpack_packed (x ∷ es) [] m n k e l h = absurd (omega arith)
  unpack_packed (x ∷ es) (o ∷ old) m n k e l h =
      let r = unpack_packed es old m n (k + 1) (omega arith) (omega arith) h.1 in
      let s = h.0 in
      let t : good_word read n k (packed x) ≡ true = good_before read n k (packed x) (omega arith) ∙ ap is_some s in (
        ap (λ t. cond t (first_bad read n (k + 1) (map packed es ++ replicate m 0)) (Some k)) t ∙ r.0,
        simp s (ap (λ xs. x ∷ xs) r.1),
      )

  pub block_unpacks : (es : List E) (bs : List ℕ) → length es ≤ 128 → AllByRecursion (λ e. packed e < 2 ^ 32) es → AllByRecursion (λ e. read (packed e) ≡ Some e) es → bs ≡ block_of (map packed es) → UnpacksTo read es bs
  block_unpacks es bs few small h e = λ old same.
      let n : length (map packed es) ≤ 128 = simp length-map few in
      let ws = ap words e ∙ words_block (map packed es) n (All-map (λ w. w < 2 ^ 32) packed es small) in
      simp ws (unpack_packed es old (128 - length (map packed es)) (length old) 0 (omega arith) same h)

  pub length-entries_after : (ws : List ℕ) (old : List E) → length (entries_after read ws old) ≡ length old
  length-entries_after [] old = refl
  length-entries_after (w ∷ ws) [] = refl
  length-entries_after (w ∷ ws) (o ∷ old) =
      elim (read w) as (λ r. length (on_entry r (λ e. e ∷ entries_after read ws old) (o ∷ old)) ≡ suc (length old))
      [ None ↦ refl | Some e ↦ ap suc (length-entries_after ws old) ]

  -- What it says of the first word that none is bad.
  none_bad : (n k w : ℕ) (ws : List ℕ) → first_bad read n k (w ∷ ws) ≡ None → (good_word read n k w ≡ true) × (first_bad read n (k + 1) ws ≡ None)
  none_bad n k w ws =
      elim (good_word read n k w) as (λ t. cond t (first_bad read n (k + 1) ws) (Some k) ≡ None → (t ≡ true) × (first_bad read n (k + 1) ws ≡ None))
      [ true ↦ λ v. (refl, v) | false ↦ λ v. let z : ◌≡◌ {A = ℕ} 0 1 = cc in absurd (omega arith) ]

  pub zeros_after : (ws : List ℕ) (n k : ℕ) → n ≤ k → first_bad read n k ws ≡ None → ws ≡ replicate (length ws) 0
  zeros_after [] n k le v = refl
  zeros_after (w ∷ ws) n k le v =
      let f = none_bad n k w ws v in
      ap₂ ◌∷◌ (eqb-true w 0 (sym (good_after read n k w le) ∙ f.0)) (zeros_after ws n (k + 1) (omega arith) f.1)

  module _ (valid : E → Type 0) (accepts : (w : ℕ) (e : E) → w < 2 ^ 32 → read w ≡ Some e → valid e) (packs : (w : ℕ) (e : E) → w < 2 ^ 32 → read w ≡ Some e → packed e ≡ w) where
    -- the words ws are those of valid entries es, and m zero words
    abbrev Packs : List ℕ → List E → ℕ → Type 0
    Packs ws es m = AllByRecursion valid es × (ws ≡ map packed es ++ replicate m 0)

    first_entry : (w : ℕ) (r : Option E) → read w ≡ r → is_some r ≡ true → (ws : List ℕ) (o : E) (old : List E) (m : ℕ) → w < 2 ^ 32 → Packs ws (entries_after read ws old) m
        → Packs (w ∷ ws) (on_entry r (λ e. e ∷ entries_after read ws old) (o ∷ old)) m
    first_entry w None e some ws o old m b ih = let z : ◌≡◌ {A = ℕ} 0 1 = cc in absurd (omega arith)
    first_entry w (Some x) e some ws o old m b ih = ((accepts w x b e, ih.0), ap₂ ◌∷◌ (sym (packs w x b e)) ih.1)

    -- Accepted words, from number k on, are those of the entries that they unpack to.
    packed_back : (ws : List ℕ) (old : List E) (n k : ℕ) → n ≡ k + length old → length old ≤ length ws → AllByRecursion (λ w. w < 2 ^ 32) ws → first_bad read n k ws ≡ None → Packs ws (entries_after read ws old) (length ws - length old)
    packed_back [] [] n k e l h v = (tt, refl)
    packed_back [] (o ∷ old) n k e l h v = absurd (omega arith)
    packed_back (w ∷ ws) [] n k e l h v =
        let a : length (w ∷ ws) ≡ length (w ∷ ws) - 0 = omega arith in
        (tt, zeros_after (w ∷ ws) n k (omega arith) v ∙ ap (λ m. replicate m 0) a)
    packed_back (w ∷ ws) (o ∷ old) n k e l h v =
        let f = none_bad n k w ws v in
        let a : length (w ∷ ws) - length (o ∷ old) ≡ length ws - length old = omega arith in
        simp a (first_entry w (read w) refl (sym (good_before read n k w (omega arith)) ∙ f.0) ws o old (length ws - length old) h.0 (packed_back ws old n (k + 1) (omega arith) (omega arith) h.1 f.1))

    pub block_packs : (bs : List ℕ) (old : List E) → length bs ≡ 512 → length old ≤ 128 → AllByRecursion (λ b. b < 256) bs → first_bad read (length old) 0 (words bs) ≡ None
        → AllByRecursion valid (entries_after read (words bs) old) × (bs ≡ block_of (map packed (entries_after read (words bs) old)))
    block_packs bs old whole few small ok =
        let es = entries_after read (words bs) old in
        let l : length (words bs) ≡ 128 = length-words 128 bs (omega arith) in
        let n : length (map packed es) ≡ length old = length-map es packed ∙ length-entries_after (words bs) old in
        let p = packed_back (words bs) old (length old) 0 (omega arith) (omega arith) (words_below bs small) ok in
        let m : length (words bs) - length old ≡ 128 - length (map packed es) = omega arith in
        (p.0, block_from_words (map packed es) bs whole (omega arith) small (p.1 ∙ ap (λ k. map packed es ++ replicate k 0) m))

below_suc : (P : ℕ → Type 0) (n : ℕ) → P 0 → ((m : ℕ) → m < n → P (suc m)) → (m : ℕ) → m < suc n → P m
below_suc P n z s zero h = z
below_suc P n z s (suc m) h = s m (omega arith)

module _ {E : Type 0} (read : ℕ → Option E) (n : ℕ) where
  -- What the first bad word is, words counted from k on.
  abbrev From : ℕ → List ℕ → Option ℕ → Type 0
  From k ws None = (j : ℕ) → j < length ws → good_word read n (k + j) (slice_index ws j) ≡ true
  From k ws (Some b) = (j : ℕ) × (b ≡ k + j) × (j < length ws) × (good_word read n (k + j) (slice_index ws j) ≡ false) × ((m : ℕ) → m < j → good_word read n (k + m) (slice_index ws m) ≡ true)

  at_number : (i j v : ℕ) → i ≡ j → good_word read n i v ≡ good_word read n j v
  at_number i j v e = ap (λ k. good_word read n k v) e

  from_more : (k w : ℕ) (ws : List ℕ) (r : Option ℕ) → good_word read n k w ≡ true → From (k + 1) ws r → From k (w ∷ ws) r
  from_more k w ws None head f =
      below_suc (λ m. good_word read n (k + m) (slice_index (w ∷ ws) m) ≡ true) (length ws) (at_number (k + 0) k w (omega arith) ∙ head) (λ m h. at_number (k + suc m) (k + 1 + m) (slice_index ws m) (omega arith) ∙ f m h)
  from_more k w ws (Some b) head f = (
    suc f.0,
    omega arith,
    omega arith,
    at_number (k + suc f.0) (k + 1 + f.0) (slice_index ws f.0) (omega arith) ∙ f.3,
    below_suc (λ m. good_word read n (k + m) (slice_index (w ∷ ws) m) ≡ true) f.0 (at_number (k + 0) k w (omega arith) ∙ head) (λ m h. at_number (k + suc m) (k + 1 + m) (slice_index ws m) (omega arith) ∙ f.4 m h),
  )

  none_below : (P : ℕ → Type 0) (m : ℕ) → m < 0 → P m
  none_below P m h = absurd (omega arith)

  from_first : (ws : List ℕ) (k : ℕ) → From k ws (first_bad read n k ws)
  from_first [] k = λ j h. absurd (omega arith)
  from_first (w ∷ ws) k =
      elim (good_word read n k w) as (λ t. good_word read n k w ≡ t → From k (w ∷ ws) (cond t (first_bad read n (k + 1) ws) (Some k))) [
        | true ↦ λ t. from_more k w ws (first_bad read n (k + 1) ws) t (from_first ws (k + 1))
        | false ↦ λ t. (0, omega arith, omega arith, at_number (k + 0) k w (omega arith) ∙ t, none_below (λ m. good_word read n (k + m) (slice_index (w ∷ ws) m) ≡ true))
      ] refl

  from_zero : (b : ℕ) (ws : List ℕ) (r : Option ℕ) → From 0 ws r → Judged b read n ws (unless_bad b r)
  from_zero b ws None f = λ j h. at_number j (0 + j) (slice_index ws j) (omega arith) ∙ f j h
  from_zero b ws (Some k) f =
      let e : k ≡ f.0 = omega arith in
      (f.0, ap (λ j. BadWord b j) e, f.2, at_number f.0 (0 + f.0) (slice_index ws f.0) (omega arith) ∙ f.3, λ j h. at_number j (0 + j) (slice_index ws j) (omega arith) ∙ f.4 j h)

  pub judged : (b : ℕ) (ws : List ℕ) (r : Result (Unit {0}) Fault) → r ≡ unless_bad b (first_bad read n 0 ws) → Judged b read n ws r
  judged b ws r e = subst (Judged b read n ws) (sym e) (from_zero b ws (first_bad read n 0 ws) (from_first ws 0))

-- An answer that refuses nothing found no bad word.
pub accepted : (b : ℕ) (bad : Option ℕ) (r : Result (Unit {0}) Fault) → r ≡ unless_bad b bad → r ≡ Ok tt → bad ≡ None
accepted b None r e ok = refl
accepted b (Some k) r e ok = let z : ◌≡◌ {A = ℕ} 0 1 = cc in absurd (omega arith)

-- What an answer and entries as unpacking gives them tell: the first bad word is refused; and if none is bad, the entries
-- are valid and the block is theirs.
module _ {E : Type 0} (packed : E → ℕ) (read : ℕ → Option E) (valid : E → Type 0) (accepts : (w : ℕ) (e : E) → w < 2 ^ 32 → read w ≡ Some e → valid e)
    (packs : (w : ℕ) (e : E) → w < 2 ^ 32 → read w ≡ Some e → packed e ≡ w) (b : ℕ) (bytes : List ℕ) (whole : length bytes ≡ 512) (fits : (i : ℕ) → slice_index bytes i < 256) (old : List E) where
  pub record Told (r : Result (Unit {0}) Fault) (out : List E) : Type 0 where
    pub value : r ≡ unpack_answer b read (length old) bytes
    pub entries : out ≡ unpacked read bytes old
    pub first : Judged b read (length old) (words bytes) r
    pub back : r ≡ Ok tt → length old ≤ 128 → AllByRecursion valid out × (bytes ≡ block_of (map packed out))

  pub told : (r : Result (Unit {0}) Fault) (out : List E) → r ≡ unpack_answer b read (length old) bytes → out ≡ unpacked read bytes old → Told r out
  told r out value entries = record {
    value = value;
    entries = entries;
    first = judged read (length old) b (words bytes) r value;
    back = λ ok few.
        subst (λ es. AllByRecursion valid es × (bytes ≡ block_of (map packed es))) (sym entries)
        (block_packs packed read valid accepts packs bytes old whole few (All-from_get_or (λ c. c < 256) bytes 0 (λ i h. fits i)) (accepted b _ r value ok));
  }
