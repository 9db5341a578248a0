-- The search for a block's place.
use Rattle.std.proofs.Common.{◌≡◌, ℕ, zero, suc, ◌<◌, ◌≤◌, true, false, List, [], ◌∷◌, length, get_or, ◌==◌, Some, None, Option, MatchOption, ◌≢◌, refl, sym, ap, ◌∙◌, arith}
use Rattle.std.proofs.lemmas.Bool.{eq-eqb, ne_eqb}
use Rattle.cards.specs.Places.{listed}
use Rattle.cards.specs.Shelves.{place_from, place_of}
use Rattle.cards.specs.declared.place.Place.{Place}

-- a place that is read past the last one
abbrev pub no_place : Place
no_place = record { block = 0; bytes = [] }

-- no place from number n on is of block b
abbrev pub NoneFrom : List Place → ℕ → ℕ → Type 0
NoneFrom ps b n = (k : ℕ) → n ≤ k → k < length ps → (get_or ps k no_place).block ≢ b

-- place i is the last of block b, or none is of it
abbrev pub IsLastOf : List Place → ℕ → Option ℕ → Type 0
IsLastOf ps b r = MatchOption r (NoneFrom ps b 0) (λ i. (i < length ps) × ((get_or ps i no_place).block ≡ b) × NoneFrom ps b (suc i))

none_behind : (p : Place) (ps : List Place) (b n : ℕ) → NoneFrom (p ∷ ps) b (suc n) → NoneFrom ps b n
none_behind p ps b n none = λ k h lt. none (suc k) (omega arith) (omega arith)

absent : (ps : List Place) (b : ℕ) → NoneFrom ps b 0 → None ≡ place_of (listed ps) b
absent [] b none = refl
absent (p ∷ ps) b none =
    let behind = absent ps b (λ k h lt. none (suc k) (omega arith) (omega arith)) in
    ap (place_from false) behind ∙ ap (λ t. place_from t (place_of (listed ps) b)) (sym (ne_eqb p.block b (none 0 (omega arith) (omega arith))))

present : (ps : List Place) (b i : ℕ) → i < length ps → (get_or ps i no_place).block ≡ b → NoneFrom ps b (suc i) → Some i ≡ place_of (listed ps) b
present [] b i lt is none = absurd (omega arith)
present (p ∷ ps) b zero lt is none =
    let behind = absent ps b (none_behind p ps b 0 none) in
    ap (place_from true) behind ∙ ap (λ t. place_from t (place_of (listed ps) b)) (sym (eq-eqb p.block b is))
present (p ∷ ps) b (suc i) lt is none = ap (place_from (p.block == b)) (present ps b i (omega arith) is (none_behind p ps b (suc i) none))

pub last_is : (ps : List Place) (b : ℕ) (r : Option ℕ) → IsLastOf ps b r → r ≡ place_of (listed ps) b
last_is ps b None none = absent ps b none
last_is ps b (Some i) found = present ps b i found.0 found.1 found.2
