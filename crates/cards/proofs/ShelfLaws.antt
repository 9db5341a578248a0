-- What a shelf makes of the card below, and what its writes, barriers and losses make of that.
use Rattle.std.proofs.Common.{◌≡◌, ℕ, suc, ◌<◌, ◌≤◌, Bool, true, false, cond, ◌==◌, nat_lt, ◌⊎◌, List, [], ◌∷◌, ◌++◌, length, get_or, slice_set, is_some, is_ok, Some, None, Ok, Err, Option, Result, sym, refl, ap, ◌∙◌, subst, inl, inr, ⊎_elim, arith}
use Rattle.std.proofs.lemmas.Bool.{cases_eq, cond-true, cond-false, eq-eqb, ne_eqb, eqb-true, false≢true}
use Rattle.cards.specs.declared.fault.Fault.{Fault}
use Rattle.cards.specs.Answers.{answer, Written, MeantWrite, WroteEach}
use Rattle.cards.specs.Meanings.{Content, Meaning, In, Wrote, Flushed, Lost}
use Rattle.cards.specs.OnShelf.{held, held_of, on_shelf, ShelfWrites}
use Rattle.cards.specs.SoundCards.{length-content}
use Rattle.cards.specs.declared.shelf.Shelf.{Shelf}
use Rattle.cards.proofs.Admitted.{refused_past}
use Rattle.cards.specs.Shelves.{Held, overlaid, shelved, place_from, place_of, goes, stored_at, stored, written_below_at, written_below}

-- ---- where a block's place is
not_some : {i : ℕ} → None ≡ Some i → ⊥
not_some {i} e = false≢true (ap is_some e)

absent_parts : (t : Bool) (o : Option ℕ) → place_from t o ≡ None → (t ≡ false) × (o ≡ None)
absent_parts t (Some i) e = absurd (not_some (sym e))
absent_parts true None e = absurd (not_some (sym e))
absent_parts false None e = (refl, refl)

-- at the head, with none behind it, or behind the head
present_parts : (t : Bool) (o : Option ℕ) (i : ℕ) → place_from t o ≡ Some i → ((t ≡ true) × (o ≡ None) × (i ≡ 0)) ⊎ ((j : ℕ) × (o ≡ Some j) × (i ≡ suc j))
present_parts t (Some j) i e = inr (j, refl, cc)
present_parts true None i e = inl (refl, refl, cc)
present_parts false None i e = absurd (not_some e)

-- ---- what the places lay on a block
module _ {A : Type 0} (f : Content → A → A) where
  -- a place of block b, and one of another block
  on : (hs : List Held) (h : Held) (b : ℕ) (x : A) → (h.0 == b) ≡ true → overlaid f (h ∷ hs) b x ≡ overlaid f hs b (f h.1 x)
  on hs h b x e = ap (overlaid f hs b) (cond-true (h.0 == b) (f h.1 x) x e)

  off : (hs : List Held) (h : Held) (b : ℕ) (x : A) → (h.0 == b) ≡ false → overlaid f (h ∷ hs) b x ≡ overlaid f hs b x
  off hs h b x e = ap (overlaid f hs b) (cond-false (h.0 == b) (f h.1 x) x e)

  overlaid_absent : (hs : List Held) (b : ℕ) (x : A) → place_of hs b ≡ None → overlaid f hs b x ≡ x
  overlaid_absent [] b x e = refl
  overlaid_absent (h ∷ hs) b x e =
      let parts = absent_parts (h.0 == b) (place_of hs b) e in
      off hs h b x parts.0 ∙ overlaid_absent hs b x parts.1

  -- the block's place is the head, with none behind it
  overlaid_head : (hs : List Held) (h : Held) (b : ℕ) (x : A) → (h.0 == b) ≡ true → place_of hs b ≡ None → overlaid f (h ∷ hs) b x ≡ f h.1 x
  overlaid_head hs h b x e none = on hs h b x e ∙ overlaid_absent hs b (f h.1 x) none

  -- a change of block b's place does not touch another block
  overlaid_set_other : (hs : List Held) (b i k : ℕ) (c : Content) (x : A) → (k ≡ b → ⊥) → place_of hs b ≡ Some i → overlaid f (slice_set hs i (b, c)) k x ≡ overlaid f hs k x
  overlaid_set_other [] b i k c x ne e = absurd (not_some e)
  overlaid_set_other (h ∷ hs) b i k c x ne e = elim (present_parts (h.0 == b) (place_of hs b) i e) [
    | inl head ↦
        ap (λ i. overlaid f (slice_set (h ∷ hs) i (b, c)) k x) head.2
        ∙ off hs (b, c) k x (ne_eqb b k (λ e. ne (sym e)))
        ∙ sym (off hs h k x (ne_eqb h.0 k (λ e. ne (sym e ∙ eqb-true h.0 b head.0))))
    | inr behind ↦
        ap (λ i. overlaid f (slice_set (h ∷ hs) i (b, c)) k x) behind.2
        ∙ overlaid_set_other hs b behind.0 k c _ ne behind.1
  ]

  -- one place more, of block b
  overlaid_push : (hs : List Held) (h : Held) (b : ℕ) (x : A) → overlaid f (hs ++ h ∷ []) b x ≡ cond (h.0 == b) (f h.1 (overlaid f hs b x)) (overlaid f hs b x)
  overlaid_push [] h b x = refl
  overlaid_push (g ∷ hs) h b x = overlaid_push hs h b _

  overlaid_more : (hs : List Held) (b : ℕ) (c : Content) (x : A) → overlaid f (hs ++ (b, c) ∷ []) b x ≡ f c (overlaid f hs b x)
  overlaid_more hs b c x = overlaid_push hs (b, c) b x ∙ cond-true (b == b) _ _ (eq-eqb b b refl)

  overlaid_more_other : (hs : List Held) (b k : ℕ) (c : Content) (x : A) → (k ≡ b → ⊥) → overlaid f (hs ++ (b, c) ∷ []) k x ≡ overlaid f hs k x
  overlaid_more_other hs b k c x ne = overlaid_push hs (b, c) k x ∙ cond-false (b == k) _ _ (ne_eqb b k (λ e. ne (sym e)))

-- the present content under the places
abbrev over : List Held → ℕ → Content → Content
over hs b x = overlaid (λ c y. c) hs b x

pub over_at : (hs : List Held) (b i : ℕ) (x : Content) → place_of hs b ≡ Some i → over hs b x ≡ (get_or hs i (0, [])).1
over_at [] b i x e = absurd (not_some e)
over_at (h ∷ hs) b i x e = elim (present_parts (h.0 == b) (place_of hs b) i e) [
  | inl head ↦ overlaid_head (λ c y. c) hs h b x head.0 head.1 ∙ ap (λ i. (get_or (h ∷ hs) i (0, [])).1) (sym head.2)
  | inr behind ↦ over_at hs b behind.0 _ behind.1 ∙ ap (λ i. (get_or (h ∷ hs) i (0, [])).1) (sym behind.2)
]

pub over_absent : (hs : List Held) (b : ℕ) (x : Content) → place_of hs b ≡ None → over hs b x ≡ x
over_absent hs b x e = overlaid_absent (λ c y. c) hs b x e

over_set : (hs : List Held) (b i : ℕ) (c x : Content) → place_of hs b ≡ Some i → over (slice_set hs i (b, c)) b x ≡ c
over_set [] b i c x e = absurd (not_some e)
over_set (h ∷ hs) b i c x e = elim (present_parts (h.0 == b) (place_of hs b) i e) [
  | inl head ↦ ap (λ i. over (slice_set (h ∷ hs) i (b, c)) b x) head.2 ∙ overlaid_head (λ c y. c) hs (b, c) b x (eq-eqb b b refl) head.1
  | inr behind ↦ ap (λ i. over (slice_set (h ∷ hs) i (b, c)) b x) behind.2 ∙ over_set hs b behind.0 c _ behind.1
]

-- the contents in doubt under the places
abbrev doubts : List Held → ℕ → List Content → List Content
doubts hs b d = overlaid ◌∷◌ hs b d

doubts_set : (hs : List Held) (b i : ℕ) (c y : Content) (d : List Content) → place_of hs b ≡ Some i → In y (doubts (slice_set hs i (b, c)) b d) → In y (c ∷ doubts hs b d)
doubts_set [] b i c y d e h = absurd (not_some e)
doubts_set (g ∷ hs) b i c y d e h = elim (present_parts (g.0 == b) (place_of hs b) i e) [
  | inl head ↦
      let new = ap (λ i. doubts (slice_set (g ∷ hs) i (b, c)) b d) head.2 ∙ overlaid_head ◌∷◌ hs (b, c) b d (eq-eqb b b refl) head.1 in
      ⊎_elim inl (λ old. inr (subst (In y) (sym (overlaid_head ◌∷◌ hs g b d head.0 head.1)) (inr old))) (subst (In y) new h)
  | inr behind ↦ doubts_set hs b behind.0 c y _ behind.1 (subst (In y) (ap (λ i. doubts (slice_set (g ∷ hs) i (b, c)) b d) behind.2) h)
]

cond_mono : (t : Bool) (y z : Content) (d e : List Content) → (In y d → In y e) → In y (cond t (z ∷ d) d) → In y (cond t (z ∷ e) e)
cond_mono true y z d e f h = ⊎_elim inl (λ i. inr (f i)) h
cond_mono false y z d e f h = f h

doubts_mono : (hs : List Held) (b : ℕ) (y : Content) (d e : List Content) → (In y d → In y e) → In y (doubts hs b d) → In y (doubts hs b e)
doubts_mono [] b y d e f h = f h
doubts_mono (g ∷ hs) b y d e f h = doubts_mono hs b y _ _ (cond_mono (g.0 == b) y g.1 d e f) h

cond_more : (t : Bool) (y z : Content) (d : List Content) → In y d → In y (cond t (z ∷ d) d)
cond_more true y z d h = inr h
cond_more false y z d h = h

doubts_more : (hs : List Held) (b : ℕ) (y : Content) (d : List Content) → In y d → In y (doubts hs b d)
doubts_more [] b y d h = h
doubts_more (g ∷ hs) b y d h = doubts_more hs b y _ (cond_more (g.0 == b) y g.1 d h)

-- ---- a place changed, and one place more
replaced : (m : Meaning) (hs : List Held) (b i : ℕ) (c : Content) → place_of hs b ≡ Some i → Wrote (shelved m hs) b c (shelved m (slice_set hs i (b, c)))
replaced m hs b i c e = record {
  size = refl;
  here = over_set hs b i c (m.present b) e;
  there = λ k lt ne. overlaid_set_other (λ c y. c) hs b i k c (m.present k) ne e;
  doubt_here = λ y h. doubts_set hs b i c y (m.doubt b) e h;
  doubt_there = λ k y lt ne h. subst (In y) (overlaid_set_other ◌∷◌ hs b i k c (m.doubt k) ne e) h;
}

added : (m : Meaning) (hs : List Held) (b : ℕ) (c : Content) → Wrote (shelved m hs) b c (shelved m (hs ++ (b, c) ∷ []))
added m hs b c = record {
  size = refl;
  here = overlaid_more (λ c y. c) hs b c (m.present b);
  there = λ k lt ne. overlaid_more_other (λ c y. c) hs b k c (m.present k) ne;
  doubt_here = λ y h. subst (In y) (overlaid_more ◌∷◌ hs b c (m.doubt b)) h;
  doubt_there = λ k y lt ne h. subst (In y) (overlaid_more_other ◌∷◌ hs b k c (m.doubt k) ne) h;
}

-- ---- places written below: the same contents are present, and no more are in doubt
pub record Narrowed (m n : Meaning) : Type 0 where
  pub size : n.size ≡ m.size
  pub present : (b : ℕ) → b < m.size → n.present b ≡ m.present b
  pub fewer : (b : ℕ) (y : Content) → b < m.size → In y (n.doubt b) → In y (m.doubt b)

narrowed_same : (m n : Meaning) → n ≡ m → Narrowed m n
narrowed_same m n is = subst (Narrowed m) (sym is) (record { size = refl; present = λ b lt. refl; fewer = λ b y lt h. h })

narrowed_trans : (m n o : Meaning) → Narrowed m n → Narrowed n o → Narrowed m o
narrowed_trans m n o f g =
    let within : (b : ℕ) → b < m.size → b < n.size = λ b lt. omega (arith, f.size) in
    record {
      size = g.size ∙ f.size;
      present = λ b lt. g.present b (within b lt) ∙ f.present b lt;
      fewer = λ b y lt h. f.fewer b y lt (g.fewer b y (within b lt) h);
    }

narrowed_under : (m n : Meaning) (h : Held) (hs : List Held) → Narrowed (shelved m (h ∷ [])) n → Narrowed (shelved m (h ∷ hs)) (shelved n hs)
narrowed_under m n h hs f = record {
  size = f.size;
  present = λ b lt. ap (over hs b) (f.present b lt);
  fewer = λ b y lt. doubts_mono hs b y (n.doubt b) _ (f.fewer b y lt);
}

one_narrowed : (m n : Meaning) (h : Held) (r : Result (Unit {0}) Fault) → length h.1 ≡ 512 → r ≡ answer m.size h.0 (length h.1) → Written r m h.0 h.1 n → Narrowed (shelved m (h ∷ [])) n
one_narrowed m n h (Ok u) whole e w = record {
  size = w.size;
  present = λ b lt. elim (cases_eq h.0 b) [
    | inl is ↦ ap n.present (sym is) ∙ w.here ∙ sym (on (λ c y. c) [] h b (m.present b) (eq-eqb h.0 b is))
    | inr ne ↦ w.there b lt (λ is. ne (sym is)) ∙ sym (off (λ c y. c) [] h b (m.present b) (ne_eqb h.0 b ne))
  ];
  fewer = λ b y lt i. elim (cases_eq h.0 b) [
    | inl is ↦
        subst (In y) (sym (on ◌∷◌ [] h b (m.doubt b) (eq-eqb h.0 b is)))
        (subst (λ k. In y (h.1 ∷ m.doubt k)) is (w.doubt_here y (subst (λ k. In y (n.doubt k)) (sym is) i)))
    | inr ne ↦ subst (In y) (sym (off ◌∷◌ [] h b (m.doubt b) (ne_eqb h.0 b ne))) (w.doubt_there b y lt (λ is. ne (sym is)) i)
  ];
}
one_narrowed m n h (Err f) whole e is =
    let past : m.size ≤ h.0 = refused_past m.size h.0 (length h.1) f whole e in
    let none : (b : ℕ) → b < m.size → (h.0 == b) ≡ false = λ b lt. ne_eqb h.0 b (λ is. omega arith) in
    narrowed_trans (shelved m (h ∷ [])) m n
    (record {
      size = refl;
      present = λ b lt. sym (off (λ c y. c) [] h b (m.present b) (none b lt));
      fewer = λ b y lt i. subst (In y) (sym (off ◌∷◌ [] h b (m.doubt b) (none b lt))) i;
    })
    (narrowed_same m n is)

narrowed_all : (ps : List Held) (m n : Meaning) → WroteEach MeantWrite (held_of ps) m n → Narrowed (shelved m (held_of ps)) n
narrowed_all [] m n is = narrowed_same m n is
narrowed_all (p ∷ ps) m n w =
    let k = w.0 in
    narrowed_trans (shelved m (held_of (p ∷ ps))) (shelved k (held_of ps)) n
    (narrowed_under m k (held p) (held_of ps) (one_narrowed m k (held p) _ (length-content p.1) refl w.1))
    (narrowed_all ps k n w.2)

-- ---- a write, a barrier and a loss
narrowed_wrote : (m n o : Meaning) (b : ℕ) (c : Content) → b < m.size → Narrowed m n → Wrote n b c o → Wrote m b c o
narrowed_wrote m n o b c lt f w =
    let within : (k : ℕ) → k < m.size → k < n.size = λ k l. omega (arith, f.size) in
    record {
      size = w.size ∙ f.size;
      here = w.here;
      there = λ k l ne. w.there k (within k l) ne ∙ f.present k l;
      doubt_here = λ y h. ⊎_elim inl (λ i. inr (f.fewer b y lt i)) (w.doubt_here y h);
      doubt_there = λ k y l ne h. f.fewer k y l (w.doubt_there k y (within k l) ne h);
    }

written_below_narrowed : (t : Bool) (ps : List Held) (m n : Meaning) → WroteEach MeantWrite (cond t [] (held_of ps)) m n → Narrowed (shelved m (held_of ps)) (shelved n (cond t (held_of ps) []))
written_below_narrowed true ps m n is = narrowed_same _ _ (ap (λ k. shelved k (held_of ps)) is)
written_below_narrowed false ps m n w = narrowed_all ps m n w

wrote_at : (o : Option ℕ) (ps : List Held) (m n : Meaning) (b : ℕ) (c : Content) → place_of (held_of ps) b ≡ o → b < m.size → WroteEach MeantWrite (written_below_at o (held_of ps)) m n
    → Wrote (shelved m (held_of ps)) b c (shelved n (stored_at o (held_of ps) b c))
wrote_at (Some i) ps m n b c e lt is = subst (λ k. Wrote (shelved m (held_of ps)) b c (shelved k (slice_set (held_of ps) i (b, c)))) (sym is) (replaced m (held_of ps) b i c e)
wrote_at None ps m n b c e lt w =
    let room = nat_lt (length (held_of ps)) 4 in
    narrowed_wrote _ (shelved n (cond room (held_of ps) [])) _ b c lt (written_below_narrowed room ps m n w) (added n (cond room (held_of ps) []) b c)

pub shelf_wrote : (ps : List Held) (m n : Meaning) (hs : List Held) (b : ℕ) (c : Content) → b < m.size → WroteEach MeantWrite (written_below (held_of ps) b) m n → hs ≡ stored (held_of ps) b c
    → Wrote (shelved m (held_of ps)) b c (shelved n hs)
shelf_wrote ps m n hs b c lt w is = subst (λ hs. Wrote (shelved m (held_of ps)) b c (shelved n hs)) (sym is) (wrote_at _ ps m n b c refl lt w)

-- ---- what a write writes below, and that this is all that it does
module _ {S : Type 0} (writes : S → ℕ → Content → S → Type 0) (hs : List Held) (b : ℕ) where
  pub written_below_none : (i : ℕ) (c : S) → place_of hs b ≡ Some i → WroteEach writes (written_below hs b) c c
  written_below_none i c at = subst (λ o. WroteEach writes (written_below_at o hs) c c) (sym at) refl

  pub written_below_room : (c d : S) → place_of hs b ≡ None → WroteEach writes (goes hs) c d → WroteEach writes (written_below hs b) c d
  written_below_room c d at w = subst (λ o. WroteEach writes (written_below_at o hs) c d) (sym at) w

pub shelf_writes : {C : Type 0} (meaning : C → Meaning) (writes : C → ℕ → Content → C → Type 0) (s t : Shelf C) (b : ℕ) (x : Content)
    → Ok tt ≡ answer (meaning s.card).size b (length x) → on_shelf t ≡ stored (on_shelf s) b x → WroteEach writes (written_below (on_shelf s) b) s.card t.card
    → ShelfWrites meaning writes s b x t
shelf_writes meaning writes s t b x e held below =
    let ok = ap is_ok e in
    record {
      places = subst (λ y. on_shelf t ≡ cond y (stored (on_shelf s) b x) (on_shelf s)) ok held;
      below = subst (λ y. WroteEach writes (cond y (written_below (on_shelf s) b) []) s.card t.card) ok below;
    }

pub shelf_flushed : (ps : List Held) (m k n : Meaning) → WroteEach MeantWrite (held_of ps) m k → Flushed k n → Flushed (shelved m (held_of ps)) (shelved n [])
shelf_flushed ps m k n w g =
    let f = narrowed_all ps m k w in
    let within : (b : ℕ) → b < m.size → b < k.size = λ b lt. omega (arith, f.size) in
    record {
      size = g.size ∙ f.size;
      present = λ b lt. g.present b (within b lt) ∙ f.present b lt;
      settled = λ b y lt h. g.settled b y (within b lt) h;
    }

pub shelf_lost : (hs : List Held) (m n : Meaning) → Lost m n → Lost (shelved m hs) (shelved n [])
shelf_lost hs m n l = record {
  size = l.size;
  present = λ b lt. doubts_more hs b (n.present b) (m.doubt b) (l.present b lt);
  settled = λ b y lt h. l.settled b y lt h;
}
