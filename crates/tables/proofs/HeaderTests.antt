-- The tests of a header on the words that were unpacked of it. A packed header passes them, and a header that passes is a
-- packed one.
use Rattle.std.proofs.Common.{◌≡◌, ℕ, ◌^◌, ◌<◌, ◌≤◌, Bool, true, false, cond, ◌==◌, List, [], ◌∷◌, ◌++◌, map, length, slice_index_or, replicate, None, Ok, Err, Result, sym, refl, ap, ◌∙◌, subst, ap₂, arith, eq-eqb}
use Rattle.std.proofs.lemmas.Bool.{eqb-true}
use Rattle.std.specs.List.{AllByRecursion}
use Rattle.std.specs.Result.{result_and}
use Rattle.cards.specs.declared.fault.Extent.TheVariants.{Logical, Physical}
use Rattle.cards.specs.declared.fault.Fault.{Fault}
use Rattle.cards.specs.declared.fault.Fault.TheVariants.{Version, RuleNumber, VolumeSize}
use Rattle.cards.specs.declared.fault.Layer.{Layer}
use Rattle.cards.specs.declared.fault.Layer.TheVariants.{Table}
use Rattle.tables.specs.declared.layout.Shape.{Shape}
use Rattle.tables.specs.declared.word.Word.{Word}
use Rattle.tables.specs.Entries.{whole_word, whole_read}
use Rattle.tables.specs.Headers.{header_words, test, header_read}
use Rattle.tables.specs.Layouts.{shape, sized, ValidShape, shape_of}
use Rattle.tables.specs.Tables.{block_of, first_bad, unless_bad, entries_after, unpacked}
use Rattle.tables.specs.Words.{words}
use Rattle.tables.proofs.RoundTrips.{words_block, block_from_words, zeros_after, accepted}
use Rattle.tables.proofs.WordBytes.{length-words}

abbrev blank : Word
blank = record { bits = 0 }

-- what the tests come to, by what each of them came to
abbrev tests : Bool → Result Shape Fault → Bool → Result (Unit {0}) Fault → ℕ → ℕ → Result Shape Fault
tests version sizes number tail l p =
    result_and (test version Version) (result_and sizes (result_and (test number RuleNumber) (result_and tail (Ok (shape l p)))))

-- what a shape tells of the two sizes, by the tests of each
shape_is : (a b : Bool) (layer : Layer) (l p : ℕ) (s : Shape)
    → result_and (cond a (Ok l) (Err (VolumeSize layer Logical))) (result_and (cond b (Ok p) (Err (VolumeSize layer Physical))) (Ok (shape l p))) ≡ Ok s
    → (a ≡ true) × (b ≡ true) × (s ≡ shape l p)
shape_is true true layer l p s e = (refl, refl, cc)
shape_is true false layer l p s e = let z : ◌≡◌ {A = ℕ} 0 1 = cc in absurd (omega arith)
shape_is false b layer l p s e = let z : ◌≡◌ {A = ℕ} 0 1 = cc in absurd (omega arith)

-- word k of those that were unpacked
abbrev pub at : List Word → ℕ → ℕ
at out k = (slice_index_or out k blank).bits

abbrev pub tail_of : List ℕ → Result (Unit {0}) Fault
tail_of ws = unless_bad 0 (first_bad (whole_read 0) 4 0 ws)

abbrev blanks : List Word
blanks = blank ∷ blank ∷ blank ∷ blank ∷ []

as_tests : (rule : ℕ) (ws : List ℕ) (out : List Word) → 4 ≤ length ws → out ≡ entries_after (whole_read 0) ws blanks
    → header_read rule ws ≡ tests (at out 0 == 1) (shape_of Table (at out 1) (at out 2)) (at out 3 == rule) (tail_of ws) (at out 1) (at out 2)
as_tests rule [] out long read = absurd (omega arith)
as_tests rule (a ∷ []) out long read = absurd (omega arith)
as_tests rule (a ∷ b ∷ []) out long read = absurd (omega arith)
as_tests rule (a ∷ b ∷ c ∷ []) out long read = absurd (omega arith)
as_tests rule (a ∷ b ∷ c ∷ d ∷ ws) out long read =
    let all = a ∷ b ∷ c ∷ d ∷ ws in
    subst (λ o. header_read rule all ≡ tests (at o 0 == 1) (shape_of Table (at o 1) (at o 2)) (at o 3 == rule) (tail_of all) (at o 1) (at o 2)) (sym read) refl

module _ (rule : ℕ) (bytes : List ℕ) (whole : length bytes ≡ 512) (out : List Word) (read : out ≡ unpacked (whole_read 0) bytes blanks) where
  abbrev ws : List ℕ
  ws = words bytes

  in_tests : header_read rule ws ≡ tests (at out 0 == 1) (shape_of Table (at out 1) (at out 2)) (at out 3 == rule) (tail_of ws) (at out 1) (at out 2)
  in_tests = as_tests rule ws out (omega (arith, length-words 128 bytes whole)) read

  module _ (version : at out 0 ≡ 1) where
    right_version : header_read rule ws ≡ tests true (shape_of Table (at out 1) (at out 2)) (at out 3 == rule) (tail_of ws) (at out 1) (at out 2)
    right_version =
        in_tests ∙ ap (λ t. tests t (shape_of Table (at out 1) (at out 2)) (at out 3 == rule) (tail_of ws) (at out 1) (at out 2)) (eq-eqb (at out 0) 1 version)

    pub bad_size : (f : Fault) → shape_of Table (at out 1) (at out 2) ≡ Err f → header_read rule ws ≡ Err f
    bad_size f e = right_version ∙ ap (λ s. tests true s (at out 3 == rule) (tail_of ws) (at out 1) (at out 2)) e

    module _ (s : Shape) (sizes : shape_of Table (at out 1) (at out 2) ≡ Ok s) where
      right_size : header_read rule ws ≡ tests true (Ok s) (at out 3 == rule) (tail_of ws) (at out 1) (at out 2)
      right_size = right_version ∙ ap (λ r. tests true r (at out 3 == rule) (tail_of ws) (at out 1) (at out 2)) sizes

      pub after_rule : at out 3 ≡ rule → (r : Result (Unit {0}) Fault) → r ≡ tail_of ws → header_read rule ws ≡ result_and r (Ok s)
      after_rule n r e =
          right_size ∙ ap (λ t. tests true (Ok s) t (tail_of ws) (at out 1) (at out 2)) (eq-eqb (at out 3) rule n)
          ∙ ap₂ (λ q x. result_and q (Ok x)) (sym e) (sym (shape_is (sized (at out 1)) (sized (at out 2)) Table (at out 1) (at out 2) s sizes).2)

-- A packed header passes the tests.
pub packed_passes : (s : Shape) (rule : ℕ) (bs : List ℕ) → s.logical < 2 ^ 32 → s.physical < 2 ^ 32 → rule < 2 ^ 32 → bs ≡ block_of (header_words s rule) → ValidShape s → header_read rule (words bs) ≡ Ok s
packed_passes s rule bs l p r e z =
    let ws : words bs ≡ header_words s rule ++ replicate 124 0 = ap words e ∙ words_block (header_words s rule) (omega arith) (omega arith, (l, (p, (r, tt)))) in
    let n : (rule == rule) ≡ true = eq-eqb rule rule refl in
    ap (header_read rule) ws ∙ simp (z.0, z.1, n)

-- Four words, each of them known, are a header's.
pub four_words : (a b c d : ℕ) (ys : List Word) → length ys ≡ 4 → at ys 0 ≡ a → at ys 1 ≡ b → at ys 2 ≡ c → at ys 3 ≡ d → map whole_word ys ≡ a ∷ b ∷ c ∷ d ∷ []
four_words a b c d [] l w x y z = absurd (omega arith)
four_words a b c d (_ ∷ []) l w x y z = absurd (omega arith)
four_words a b c d (_ ∷ _ ∷ []) l w x y z = absurd (omega arith)
four_words a b c d (_ ∷ _ ∷ _ ∷ []) l w x y z = absurd (omega arith)
four_words a b c d (_ ∷ _ ∷ _ ∷ _ ∷ []) l w x y z = cc
four_words a b c d (_ ∷ _ ∷ _ ∷ _ ∷ _ ∷ ys) l w x y z = absurd (omega arith)

both_passed : {T U : Type 0} (r : Result T Fault) (q : Result U Fault) (x : U) → result_and r q ≡ Ok x → (t : T) × (r ≡ Ok t) × (q ≡ Ok x)
both_passed (Ok t) q x e = (t, refl, e)
both_passed (Err f) q x e = let z : ◌≡◌ {A = ℕ} 0 1 = cc in absurd (omega arith)

passed : (t : Bool) (f : Fault) (u : Unit {0}) → test t f ≡ Ok u → t ≡ true
passed true f u e = refl
passed false f u e = let z : ◌≡◌ {A = ℕ} 0 1 = cc in absurd (omega arith)

passing_words : (rule : ℕ) (ws : List ℕ) (s : Shape) → length ws ≡ 128 → header_read rule ws ≡ Ok s → ValidShape s × (ws ≡ header_words s rule ++ replicate 124 0)
passing_words rule [] s l e = absurd (omega arith)
passing_words rule (a ∷ []) s l e = absurd (omega arith)
passing_words rule (a ∷ b ∷ []) s l e = absurd (omega arith)
passing_words rule (a ∷ b ∷ c ∷ []) s l e = absurd (omega arith)
passing_words rule (a ∷ b ∷ c ∷ d ∷ ws) s l e =
    let all = a ∷ b ∷ c ∷ d ∷ ws in
    let v = both_passed (test (a == 1) Version) _ s e in
    let h = both_passed (shape_of Table b c) _ s v.2 in
    let n = both_passed (test (d == rule) RuleNumber) _ s h.2 in
    let t = both_passed (tail_of all) _ s n.2 in
    let one : a ≡ 1 = eqb-true a 1 (passed (a == 1) Version v.0 v.1) in
    let number : d ≡ rule = eqb-true d rule (passed (d == rule) RuleNumber n.0 n.1) in
    let none : first_bad (whole_read 0) 4 4 ws ≡ None = accepted 0 (first_bad (whole_read 0) 4 0 all) (tail_of all) refl t.1 in
    let ok = t.2 in
    let same : s ≡ shape b c = cc in
    let sizes = shape_is (sized b) (sized c) Table b c h.0 h.1 in
    let many : length ws ≡ 124 = omega arith in
    let rest : ws ≡ replicate 124 0 = zeros_after whole_word (whole_read 0) ws 4 4 (omega arith) none ∙ ap (λ k. replicate k 0) many in
    subst (λ x. ValidShape x × (all ≡ header_words x rule ++ replicate 124 0)) (sym same)
    ((sizes.0, sizes.1), ap₂ ◌∷◌ one (ap (λ xs. b ∷ c ∷ xs) (ap₂ ◌∷◌ number rest)))

-- A header that passes the tests is a packed one.
pub passing_packed : (rule : ℕ) (bs : List ℕ) (s : Shape) → length bs ≡ 512 → AllByRecursion (λ b. b < 256) bs → header_read rule (words bs) ≡ Ok s → ValidShape s × (bs ≡ block_of (header_words s rule))
passing_packed rule bs s whole small e =
    let p = passing_words rule (words bs) s (length-words 128 bs (omega arith)) e in
    (p.0, block_from_words (header_words s rule) bs whole (omega arith) small p.1)
