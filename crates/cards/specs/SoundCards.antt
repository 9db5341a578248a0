-- Each make of card means something sound. These are proofs and define nothing; they stand here because the
-- implementations of the interface cite them, each as its law `sound`.
use Rattle.std.specs.Prelude.{◌≡◌, ℕ, ◌+◌, ◌*◌, ◌≤◌, true, false, cond, List, [], ◌∷◌, length, ◌==◌, refl}
use Rattle.std.proofs.Common.{ap, ◌∙◌, inl, ⊎_elim, arith, length-take, length-drop, length-append}
use Rattle.std.proofs.lemmas.List.{length-replicate}
use Rattle.cards.specs.Blocks.{content, block_at}
use Rattle.cards.specs.Meanings.{Content, Meaning, In, Sound}
use Rattle.cards.specs.OnShelf.{held_of, shelf_of}
use Rattle.cards.specs.PlainCards.{plain}
use Rattle.cards.specs.Shelves.{Held, overlaid}
use Rattle.cards.specs.WriteBackCards.{pairs, write_back}
use Rattle.cards.specs.declared.shelf.Shelf.{Shelf}

-- a block that lies in the run has 512 bytes
pub length-block_at : (xs : List ℕ) (p : ℕ) → p * 512 + 512 ≤ length xs → length (block_at xs p) ≡ 512
length-block_at xs p within = simp (length-take, length-drop) (omega arith)

pub plain_sound : (xs : List ℕ) → Sound (plain xs)
plain_sound xs = record {
  few = omega arith;
  in_doubt = λ b lt. inl refl;
  whole = λ b x lt. ⊎_elim (λ is. ap length is ∙ length-block_at xs b (omega arith)) (λ none. absurd none);
}

pub write_back_sound : (xs : List ℕ) → Sound (write_back xs)
write_back_sound xs = record {
  few = omega arith;
  in_doubt = λ b lt. inl refl;
  whole = λ b x lt.
      ⊎_elim (λ is. ap length is ∙ length-block_at xs (pairs xs + b) (omega arith))
      (⊎_elim (λ is. ap length is ∙ length-block_at xs b (omega arith)) (λ none. absurd none));
}

-- ---- what lies on a shelf has 512 bytes, and what is present on it is in doubt
overlaid_held : (ps : List Held) (b : ℕ) (x : Content) (d : List Content) → In x d → In (overlaid (λ c y. c) (held_of ps) b x) (overlaid ◌∷◌ (held_of ps) b d)
overlaid_held [] b x d h = h
overlaid_held (p ∷ ps) b x d h =
    overlaid_held ps b _ _
    (elim (p.0 == b) as (λ t. In (cond t (content p.1) x) (cond t (content p.1 ∷ d) d)) [ true ↦ inl refl | false ↦ h ])

pub length-content : (xs : List ℕ) → length (content xs) ≡ 512
length-content xs = simp (length-take, length-append, length-replicate) (omega arith)

AllWhole : List Content → Type 0
AllWhole d = (x : Content) → In x d → length x ≡ 512

overlaid_whole : (ps : List Held) (b : ℕ) (d : List Content) → AllWhole d → AllWhole (overlaid ◌∷◌ (held_of ps) b d)
unfolding AllWhole
overlaid_whole [] b d h = h
overlaid_whole (p ∷ ps) b d h =
    overlaid_whole ps b _
    (elim (p.0 == b) as (λ t. AllWhole (cond t (content p.1 ∷ d) d)) [ true ↦ λ x. ⊎_elim (λ is. ap length is ∙ length-content p.1) (h x) | false ↦ h ])

pub shelf_sound : {C : Type 0} (meaning : C → Meaning) → ((c : C) → Sound (meaning c)) → (s : Shelf C) → Sound (shelf_of meaning s)
unfolding AllWhole
shelf_sound meaning sound s =
    let m = meaning s.card in
    let ok = sound s.card in
    let ps = s.places in
    record {
      few = ok.few;
      in_doubt = λ b lt. overlaid_held ps b (m.present b) (m.doubt b) (ok.in_doubt b lt);
      whole = λ b x lt. overlaid_whole ps b (m.doubt b) (λ y. ok.whole b y lt) x;
    }
