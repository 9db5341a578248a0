-- What the places of a shelf hold, after each change of them.
use Rattle.std.proofs.Common.{◌≡◌, ℕ, ◌+◌, ◌<◌, List, [], ◌∷◌, ◌++◌, length, get_or, take, slice_set, Some, None, ◌==◌, refl, sym, ap, ◌∙◌}
use Rattle.std.proofs.lemmas.List.{take_more, length-map, map_push, map-set, get_or-map}
use Rattle.cards.specs.Meanings.{Content}
use Rattle.cards.specs.OnShelf.{held, held_of}
use Rattle.cards.specs.Places.{listed}
use Rattle.cards.specs.Shelves.{Held, place_from, place_of, stays, stored_at, stored}
use Rattle.cards.specs.declared.place.Place.{Place}
use Rattle.cards.proofs.BlockLaws.{content_is}
use Rattle.cards.proofs.PlacesSearch.{no_place}

-- a block's place does not depend on the contents
pub place_held : (ps : List Held) (b : ℕ) → place_of (held_of ps) b ≡ place_of ps b
place_held [] b = refl
place_held (p ∷ ps) b = ap (place_from (p.0 == b)) (place_held ps b)

abbrev as_pair : Place → Held
as_pair p = (p.block, p.bytes)

-- one place more
pub held_more : (ps : List Place) (i : ℕ) → i < length ps → held_of (listed (take (i + 1) ps)) ≡ held_of (listed (take i ps)) ++ held (as_pair (get_or ps i no_place)) ∷ []
held_more ps i lt =
    ap (λ qs. held_of (listed qs)) (take_more ps i no_place lt)
    ∙ ap held_of (map_push as_pair (take i ps) (get_or ps i no_place))
    ∙ map_push held (listed (take i ps)) (as_pair (get_or ps i no_place))

-- what the place of a block that was found holds
pub held_at : (qs : List Place) (i : ℕ) → i < length qs → length (get_or qs i no_place).bytes ≡ 512 → (get_or qs i no_place).bytes ≡ (get_or (held_of (listed qs)) i (0, [])).1
held_at qs i lt whole =
    sym (content_is (get_or qs i no_place).bytes whole)
    ∙ ap (λ (h : Held). h.1) (sym (get_or-map held (listed qs) i (as_pair no_place) (0, []) (simp length-map lt) ∙ ap held (get_or-map as_pair qs i no_place (as_pair no_place) lt)))

-- ---- a write of c to block b, at its place or at the next
module _ (ps : List Held) (b : ℕ) (c : Content) (whole : length c ≡ 512) where
  as_held : held (b, c) ≡ (b, c)
  as_held = ap (λ x. (b, x)) (content_is c whole)

  pub held_replaced : (i : ℕ) → place_of (held_of ps) b ≡ Some i → held_of (slice_set ps i (b, c)) ≡ stored (held_of ps) b c
  held_replaced i at = map-set held ps i (b, c) ∙ ap (slice_set (held_of ps) i) as_held ∙ ap (λ o. stored_at o (held_of ps) b c) (sym at)

  pub held_added : (qs : List Held) → place_of (held_of ps) b ≡ None → held_of qs ≡ stays (held_of ps) → held_of (qs ++ (b, c) ∷ []) ≡ stored (held_of ps) b c
  held_added qs at room =
      map_push held qs (b, c)
      ∙ ap (λ hs. hs ++ held (b, c) ∷ []) room
      ∙ ap (λ h. stays (held_of ps) ++ h ∷ []) as_held
      ∙ ap (λ o. stored_at o (held_of ps) b c) (sym at)
