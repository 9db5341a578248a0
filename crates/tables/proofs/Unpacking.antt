-- The words of a block taken up one by one.
use Rattle.std.proofs.Common.{◌≡◌, ℕ, ◌+◌, ◌<◌, ◌≤◌, Bool, true, false, cond, ◌==◌, List, [], ◌∷◌, ◌++◌, length, slice_index_or, take, drop, slice_set, is_some, Some, None, Option, sym, refl, ap, ◌∙◌, subst, inl, inr, arith}
use Rattle.std.proofs.lemmas.List.{take-append-drop, append_assoc, append-nil, take_all, drop_all, drop_more, drop-set-lt, take_more_set, set_past, length-set}
use Rattle.std.proofs.lemmas.Bool.{cases_lt, lt-ltb, le-ltb}
use Rattle.tables.specs.Tables.{good_word, first_bad, on_entry, entries_after}

module _ {E : Type 0} where
  pub none_to_set : (r : Option E) (out : List E) (k : ℕ) → length out ≤ k → out ≡ on_entry r (slice_set out k) out
  none_to_set None out k past = refl
  none_to_set (Some e) out k past = sym (set_past out k e past)

  pub length_taken : (r : Option E) (out : List E) (k : ℕ) → length (on_entry r (slice_set out k) out) ≡ length out
  length_taken None out k = refl
  length_taken (Some e) out k = length-set out k e

  drop_one : (xs : List E) (i : ℕ) → i < length xs → (x : E) × (drop i xs ≡ x ∷ drop (i + 1) xs)
  drop_one [] i h = absurd (omega arith)
  drop_one (x ∷ xs) i h = (slice_index_or (x ∷ xs) i x, drop_more (x ∷ xs) i x h)

module _ {E : Type 0} (read : ℕ → Option E) where
  pub good_before : (n k w : ℕ) → k < n → good_word read n k w ≡ is_some (read w)
  good_before n k w lt = ap (λ t. cond t (is_some (read w)) (w == 0)) (lt-ltb k n lt)

  pub good_after : (n k w : ℕ) → n ≤ k → good_word read n k w ≡ (w == 0)
  good_after n k w le = ap (λ t. cond t (is_some (read w)) (w == 0)) (le-ltb k n le)

  pub none_filled : (ws : List ℕ) → entries_after read ws [] ≡ []
  none_filled [] = refl
  none_filled (w ∷ ws) = refl

  -- word w is number k, and ws are the words after it
  module _ (out : List E) (k w : ℕ) (ws : List ℕ) where
    abbrev Kept : Bool → Option E → Type 0
    Kept true r = take (k + 1) (on_entry r (slice_set out k) out) ++ entries_after read ws (drop (k + 1) (on_entry r (slice_set out k) out)) ≡ take k out ++ entries_after read (w ∷ ws) (drop k out)
    Kept false r = on_entry r (slice_set out k) out ≡ take k out ++ entries_after read (w ∷ ws) (drop k out)

    before_last : (r : Option E) → read w ≡ r → k < length out → Kept (is_some r) r
    before_last None is lt =
        let o = drop_one out k lt in
        sym (ap (λ xs. take k out ++ entries_after read (w ∷ ws) xs) o.1 ∙ ap (λ q. take k out ++ on_entry q (λ e. e ∷ entries_after read ws (drop (k + 1) out)) (o.0 ∷ drop (k + 1) out)) is ∙ ap (λ xs. take k out ++ xs) (sym o.1) ∙ take-append-drop k out)
    before_last (Some e) is lt =
        let o = drop_one out k lt in
        ap (λ xs. xs ++ entries_after read ws (drop (k + 1) (slice_set out k e))) (take_more_set out k e lt)
        ∙ ap (λ xs. (take k out ++ e ∷ []) ++ entries_after read ws xs) (drop-set-lt (k + 1) out k e (omega arith))
        ∙ append_assoc (take k out) (e ∷ []) (entries_after read ws (drop (k + 1) out))
        ∙ sym (ap (λ xs. take k out ++ entries_after read (w ∷ ws) xs) o.1 ∙ ap (λ q. take k out ++ on_entry q (λ x. x ∷ entries_after read ws (drop (k + 1) out)) (o.0 ∷ drop (k + 1) out)) is)

    after_last : (t : Bool) (r : Option E) → length out ≤ k → Kept t r
    after_last true r past =
        let same = none_to_set r out k past in
        ap (λ xs. take (k + 1) xs ++ entries_after read ws (drop (k + 1) xs)) (sym same)
        ∙ ap (λ xs. take (k + 1) out ++ entries_after read ws xs) (drop_all (k + 1) out (omega arith))
        ∙ ap (λ xs. xs ++ entries_after read ws []) (take_all (k + 1) out (omega arith) ∙ sym (take_all k out past))
        ∙ ap (λ xs. take k out ++ xs) (none_filled ws)
        ∙ sym (ap (λ xs. take k out ++ entries_after read (w ∷ ws) xs) (drop_all k out past))
    after_last false r past =
        sym (none_to_set r out k past) ∙ sym (ap (λ xs. take k out ++ entries_after read (w ∷ ws) xs) (drop_all k out past) ∙ append-nil (take k out) ∙ take_all k out past)

    pub kept : Kept (good_word read (length out) k w) (read w)
    kept = elim (cases_lt k (length out)) [
      | inl lt ↦ let e = sym (good_before (length out) k w lt) in subst (λ t. Kept t (read w)) e (before_last (read w) refl lt)
      | inr le ↦ after_last (good_word read (length out) k w) (read w) le
    ]

  -- Taking up the words ws into the entries old has come to word k: those left are the last ones, and the entries are out.
  pub record Reached (ws : List ℕ) (old : List E) (k : ℕ) (left : List ℕ) (out : List E) : Type 0 where
    pub as_many : length out ≡ length old
    pub bad : first_bad read (length old) k left ≡ first_bad read (length old) 0 ws
    pub entries : take k out ++ entries_after read left (drop k out) ≡ entries_after read ws old

  pub begin : (ws : List ℕ) (old : List E) (k : ℕ) (left : List ℕ) → k ≡ 0 → left ≡ ws → Reached ws old k left old
  begin ws old k left none all =
      subst (λ xs. Reached ws old k xs old) (sym all) (subst (λ n. Reached ws old n ws old) (sym none) (record { as_many = refl; bad = refl; entries = refl }))

  pub end : (ws : List ℕ) (old : List E) (k : ℕ) (left : List ℕ) (out : List E) → Reached ws old k left out → left ≡ [] → (first_bad read (length old) 0 ws ≡ None) × (out ≡ entries_after read ws old)
  end ws old k left out r none =
      let last = subst (λ xs. Reached ws old k xs out) none r in
      (sym last.bad, sym (take-append-drop k out) ∙ last.entries)

  -- the word w is number k, and left are the words after it
  module _ (ws : List ℕ) (old : List E) (j : ℕ) (xs : List ℕ) (out : List E) (r : Reached ws old j xs out) (k w : ℕ) (left : List ℕ) (number : k ≡ j) (next : xs ≡ w ∷ left) (new : List E)
      (taken : new ≡ on_entry (read w) (slice_set out k) out) where
    here : Reached ws old k (w ∷ left) out
    here = subst (λ n. Reached ws old n (w ∷ left) out) (sym number) (subst (λ ys. Reached ws old j ys out) next r)

    same_good : (t : Bool) → t ≡ good_word read (length out) k w → good_word read (length old) k w ≡ t
    same_good t e = ap (λ n. good_word read n k w) (sym r.as_many) ∙ sym e

    pub go_on : true ≡ good_word read (length out) k w → (i : ℕ) → i ≡ k + 1 → Reached ws old i left new
    go_on g i more =
        subst (λ n. Reached ws old n left new) (sym more)
        (record {
          as_many = ap length taken ∙ length_taken (read w) out k ∙ r.as_many;
          bad = sym (ap (λ t. cond t (first_bad read (length old) (k + 1) left) (Some k)) (same_good true g)) ∙ here.bad;
          entries =
              ap (λ ys. take (k + 1) ys ++ entries_after read left (drop (k + 1) ys)) taken
              ∙ subst (λ t. Kept out k w left t (read w)) (sym g) (kept out k w left) ∙ here.entries;
        })

    pub stop : false ≡ good_word read (length out) k w → (first_bad read (length old) 0 ws ≡ Some k) × (new ≡ entries_after read ws old)
    stop g = (
      sym here.bad ∙ ap (λ t. cond t (first_bad read (length old) (k + 1) left) (Some k)) (same_good false g),
      taken ∙ subst (λ t. Kept out k w left t (read w)) (sym g) (kept out k w left) ∙ here.entries,
    )
