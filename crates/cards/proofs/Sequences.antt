-- Writes one after another: one write more, and what each of them being something says of all.
use Rattle.std.proofs.Common.{◌≡◌, ℕ, List, [], ◌∷◌, ◌++◌, refl, ap, ◌∙◌, subst}
use Rattle.cards.specs.Answers.{MeantWrite, CardWrite, WroteEach}
use Rattle.cards.specs.Lenders.{Names}
use Rattle.cards.specs.Meanings.{Content, Meaning}

pub wrote_push : {S : Type 0} (writes : S → ℕ → Content → S → Type 0) (hs : List (ℕ × Content)) (c d e : S) (h : ℕ × Content) → WroteEach writes hs c d → writes d h.0 h.1 e → WroteEach writes (hs ++ h ∷ []) c e
wrote_push writes [] c d e h is w = (e, subst (λ d. writes d h.0 h.1 e) is w, refl)
wrote_push writes (g ∷ hs) c d e h v w = (v.0, v.1, wrote_push writes hs v.0 d e h v.2 w)

-- writes that are each P of a card are each Q of what f makes of the card
wrote_weaker : {S T : Type 0} (f : S → T) (P : S → ℕ → Content → S → Type 0) (Q : T → ℕ → Content → T → Type 0) → ((c : S) (b : ℕ) (x : Content) (d : S) → P c b x d → Q (f c) b x (f d))
    → (hs : List (ℕ × Content)) (c d : S) → WroteEach P hs c d → WroteEach Q hs (f c) (f d)
wrote_weaker f P Q weaker [] c d is = ap f is
wrote_weaker f P Q weaker (h ∷ hs) c d w = (f w.0, weaker c h.0 h.1 w.0 w.1, wrote_weaker f P Q weaker hs w.0 d w.2)

module _ {S : Type 0} (meaning : S → Meaning) (lenders : S → Names) (writes : S → ℕ → Content → S → Type 0) where
  pub wrote_exactly : (hs : List (ℕ × Content)) (c d : S) → WroteEach (CardWrite meaning lenders writes) hs c d → WroteEach writes hs c d
  wrote_exactly hs c d w = wrote_weaker (λ c. c) (CardWrite meaning lenders writes) writes (λ c b x d v. v.0) hs c d w

  pub wrote_meant : (hs : List (ℕ × Content)) (c d : S) → WroteEach (CardWrite meaning lenders writes) hs c d → WroteEach MeantWrite hs (meaning c) (meaning d)
  wrote_meant hs c d w = wrote_weaker meaning (CardWrite meaning lenders writes) MeantWrite (λ c b x d v. v.1) hs c d w

  pub wrote_lenders : (hs : List (ℕ × Content)) (c d : S) → WroteEach (CardWrite meaning lenders writes) hs c d → lenders d ≡ lenders c
  wrote_lenders [] c d is = ap lenders is
  wrote_lenders (h ∷ hs) c d w = wrote_lenders hs w.0 d w.2 ∙ w.1.2
