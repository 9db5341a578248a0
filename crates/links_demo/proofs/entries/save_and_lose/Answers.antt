use Rattle.std.proofs.Common.{◌≡◌, ℕ, ◌^◌, ◌<◌, cond, map, length, is_ok, Some, Ok, sym, refl, ◌∙◌, ap₂}
use Rattle.std.proofs.ByRecursion.{All-weaker}
use Rattle.std.specs.Result.{result_and}
use Rattle.cards.specs.Answers.{answer}
use Rattle.cards.specs.Meanings.{Content, Meaning, Wrote, Flushed, Lost}
use Rattle.cards.proofs.Admitted.{admitted}
use Rattle.cards.proofs.Outlives.{outlives}
use Rattle.tables.specs.Tables.{block_of, unless_bad, unpack_answer, unpacked}
use Rattle.tables.proofs.RoundTrips.{block_unpacks}
use Rattle.links_demo.proofs.entries.save_and_lose.Goals as goal

-- the card has as many blocks as before, and the block that was written
kept : (m n o k : Meaning) (b : ℕ) (c : Content) → Ok tt ≡ answer m.size b 512 → Wrote m b c n → Flushed n o → Lost o k → (k.size ≡ m.size) × (k.present b ≡ c)
kept m n o k b c e w f l = (l.size ∙ f.size ∙ w.size, outlives m n o k b c (admitted m.size b 512 tt e).1 w f l)

pub returns-clause-value : goal.returns-clause-value
returns-clause-value g c =
    let h = kept _ _ _ _ _ _ c.in_ok-save_entries.ensures.value c.in_ok-save_entries.ensures.card c.barrier.ensures.card c.lose_power.ensures.card in
    c.load_entries.ensures.value
    ∙ ap₂ (λ s x. result_and (answer s c.args.block 512) (unpack_answer c.args.block (g.E.Entry.reads c.args.physical) (length c.args.out.now) x)) h.0 h.1

pub returns-clause-entries : goal.returns-clause-entries
returns-clause-entries g c =
    let h = kept _ _ _ _ _ _ c.in_ok-save_entries.ensures.value c.in_ok-save_entries.ensures.card c.barrier.ensures.card c.lose_power.ensures.card in
    c.load_entries.ensures.entries
    ∙ ap₂ (λ s x. cond (is_ok (answer s c.args.block 512)) (unpacked (g.E.Entry.reads c.args.physical) x c.args.out.now) c.args.out.now) h.0 h.1

pub returns-clause-back : goal.returns-clause-back
returns-clause-back g c = λ in' few valid same.
    let e = g.E.Entry in
    let laws = g.met.E.Entry in
    let p = c.args.physical in
    let es = c.args.entries.now in
    let old = c.args.out.now in
    let u = block_unpacks e.packed (e.reads p) es (block_of (map e.packed es)) few
    (All-weaker (e.valid p) (λ x. e.packed x < 2 ^ 32) (laws.fits p) es valid)
    (All-weaker (e.valid p) (λ x. e.reads p (e.packed x) ≡ Some x) (laws.unpacks p) es valid) refl old same in
    let ok = sym c.in_ok-save_entries.ensures.value in (
      returns-clause-value g c ∙ ap₂ (λ a n. result_and a (unless_bad c.args.block n)) ok u.0,
      returns-clause-entries g c ∙ ap₂ (λ a x. cond (is_ok a) x old) ok u.1,
    )
