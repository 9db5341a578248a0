-- What a card means after a write and a barrier, and what the card below a shelf means then.
use Rattle.std.proofs.Common.{◌≡◌, ℕ, ◌<◌, true, [], length, is_ok, Ok, MatchBool, Result, ◌∙◌, subst, arith}
use Rattle.std.proofs.lemmas.Bool.Decides.{nat_tests}
use Rattle.cards.specs.declared.fault.Fault.{Fault}
use Rattle.cards.specs.declared.shelf.Shelf.{Shelf}
use Rattle.cards.specs.Answers.{answer, Saved}
use Rattle.cards.specs.Meanings.{Content, Meaning, Wrote, Flushed}
use Rattle.cards.specs.OnShelf.{on_shelf, shelf_of, ShelfWrites, ShelfFlushes}
use Rattle.card_cases.specs.Durable.{Durable}
use Rattle.cards.specs.Shelves.{shelved}

-- ---- what the card then means
pub durable : (m n o : Meaning) (b : ℕ) (c : Content) → Ok tt ≡ answer m.size b (length c) → Wrote m b c n → Flushed n o → Durable o b c
durable m n o b c e w f =
    let lt : b < n.size = grind (arith, nat_tests, w.size) in
    let is : o.present b ≡ c = f.present b lt ∙ w.here in
    record { present = is; settled = λ x h. f.settled b x lt h ∙ is }

-- what a shelf leaves below, if nothing is left on it
pub durable_below : {C : Type 0} (meaning : C → Meaning) (u : Shelf C) (b : ℕ) (c : Content) → on_shelf u ≡ [] → Durable (shelf_of meaning u) b c → Durable (meaning u.card) b c
durable_below meaning u b c empty d = subst (λ hs. Durable (shelved (meaning u.card) hs) b c) empty d

pub saved_empties : {C : Type 0} (writes : C → ℕ → Content → C → Type 0) (meaning : C → Meaning) (flushes : C → C → Type 0) (s u : Shelf C) (r : Result (Unit {0}) Fault) (b : ℕ) (x : Content) → is_ok r ≡ true
    → Saved (ShelfWrites meaning writes) (ShelfFlushes writes flushes) r b x s u → on_shelf u ≡ []
saved_empties writes meaning flushes s u r b x ok went = (subst (λ t. MatchBool t ((j : Shelf _) × ShelfWrites meaning writes s b x j × ShelfFlushes writes flushes j u) (ShelfWrites meaning writes s b x u)) ok went).2.places
