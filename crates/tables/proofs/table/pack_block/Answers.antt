use Rattle.std.proofs.Common.{◌≡◌, ◌^◌, ◌<◌, ◌≤◌, ◌⊎◌, map, length, take, slice_index, Some, ◌∙◌, ap, sym, inl, inr, arith, rules}
use Rattle.std.proofs.ByRecursion.{All-weaker}
use Rattle.std.proofs.lemmas.Bool.{cases_lt}
use Rattle.std.proofs.lemmas.List.{length-map, get_or-map, get_or-take}
use Rattle.tables.specs.Words.{bytes_of}
use Rattle.tables.proofs.Packing.{packed_none, packed_more, packed_all}
use Rattle.tables.proofs.RoundTrips.{block_unpacks}
use Rattle.tables.proofs.table.pack_block.Goals as goal

pub loop-i-init : goal.loop-i-init
loop-i-init g c = packed_none (map g.E.Entry.packed c.args.entries.now)

pub loop-i-preserved : goal.loop-i-preserved
loop-i-preserved g c =
    let m = g.E.Entry in
    let es = c.args.entries.now in
    let i = c.loop-i.i in
    let lt : i < length (take c.min.result es) = c.loop-i-test.true in
    let n : length (take c.min.result es) ≡ c.min.result = search rules in
    let is : m.packed c.index-packed-i.result ≡ slice_index (map m.packed es) i =
    ap m.packed (c.index-packed-i.is ∙ get_or-take c.min.result es i c.index-packed-i.result (omega arith)) ∙ sym (get_or-map m.packed es i c.index-packed-i.result 0 (omega (arith, c.min.ensures))) in
    packed_more (map m.packed es) i c.loop-i.words c.to_bytes.result (omega (arith, c.min.ensures)) (c.to_bytes.ensures ∙ ap bytes_of (c.pack.ensures ∙ is)) c.loop-i.invariant

pub returns-clause-bytes : goal.returns-clause-bytes
returns-clause-bytes g c =
    let ws = map g.E.Entry.packed c.args.entries.now in
    let copied : c.copy_from_slice.new.self ≡ c.as_flattened.result.now = search rules in
    let n : length (take c.min.result c.args.entries.now) ≡ c.min.result = search rules in
    let all : (128 ≤ c.loop-i.i) ⊎ (length ws ≤ c.loop-i.i) =
    elim (cases_lt (length c.args.entries.now) 128) [ inl lt ↦ inr (omega (arith, c.min.ensures, length-map c.args.entries.now g.E.Entry.packed)) | inr le ↦ inl (omega (arith, c.min.ensures)) ] in
    copied ∙ c.as_flattened.ensures.value ∙ packed_all ws c.loop-i.i c.loop-i.words all c.loop-i.invariant

pub returns-clause-back : goal.returns-clause-back
returns-clause-back g c =
    let m = g.E.Entry in
    let laws = g.met.E.Entry in
    let es = c.args.entries.now in
    λ p few valid.
    block_unpacks m.packed (m.reads p) es c.copy_from_slice.new.self few
    (All-weaker (m.valid p) (λ e. m.packed e < 2 ^ 32) (laws.fits p) es valid)
    (All-weaker (m.valid p) (λ e. m.reads p (m.packed e) ≡ Some e) (laws.unpacks p) es valid) (returns-clause-bytes g c)
