-- What is written and barriered outlives a loss.
use Rattle.std.proofs.Common.{◌≡◌, ℕ, ◌<◌, Bool, true, MatchBool, ◌∙◌, subst, arith}
use Rattle.cards.specs.Meanings.{Content, Meaning, Wrote, Flushed, Lost}

pub outlives : (m n o k : Meaning) (b : ℕ) (c : Content) → b < m.size → Wrote m b c n → Flushed n o → Lost o k → k.present b ≡ c
outlives m n o k b c lt w f l =
    let in-n : b < n.size = omega (arith, w.size) in
    let in-o : b < o.size = omega (arith, f.size) in
    f.settled b (k.present b) in-n (l.present b in-o) ∙ f.present b in-n ∙ w.here

pub when_true_is : (t : Bool) (P Q : Type 0) → true ≡ t → P → MatchBool t P Q
when_true_is t P Q e p = subst (λ t. MatchBool t P Q) e p
