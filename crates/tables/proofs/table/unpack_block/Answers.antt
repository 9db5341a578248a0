use Rattle.std.proofs.Common.{◌≡◌, ◌+◌, length, true, false, Ok, Err, sym, ap, ◌∙◌, inl, arith, rules}
use Rattle.cards.specs.declared.fault.Fault.TheVariants.{BadWord}
use Rattle.tables.specs.Words.{words}
use Rattle.tables.specs.Tables.{good_word, unless_bad}
use Rattle.tables.proofs.RoundTrips.{told}
use Rattle.tables.proofs.Unpacking.{begin, end, go_on, stop}
use Rattle.tables.proofs.WordBytes.{length-words}
use Rattle.tables.proofs.table.unpack_block.Goals as goal

pub loop-k-init : goal.loop-k-init
loop-k-init g c =
    let bytes = c.args.bytes.now in
    let it = c.into_iter-k-iterator.result in
    let left = words it.iter.left.now in
    let none : it.count ≡ 0 = search rules in
    let all : left ≡ words bytes = search rules in
    let whole : length left ≡ 128 = ap length all ∙ length-words 128 bytes c.told-bytes in
    ((tt, tt, inl (omega arith)), tt, omega arith, begin (g.E.Entry.reads c.args.physical) (words bytes) c.args.out.now it.count left none all)

pub loop-k-preserved : goal.loop-k-preserved
loop-k-preserved g c =
    let read = g.E.Entry.reads c.args.physical in
    let next = c.in-Some.ensures.steps in
    let good : true ≡ good_word read (length c.loop-k.out) c.in-Some.k c.in-Some.word.bits = search rules in
    let shorter = ap length next.0 in
    let number : c.next.new.self.count ≡ c.in-Some.k + 1 = omega arith in (
      (tt, tt, inl (omega arith)),
      tt,
      omega arith,
      go_on read (words c.args.bytes.now) c.args.out.now c.loop-k.k-iterator.count _ c.loop-k.out c.loop-k.invariant.3 c.in-Some.k c.in-Some.word.bits
          _ next.1 next.0 c.take_word.new.out c.take_word.ensures.entries good c.next.new.self.count number,
    )

pub returns-in_err-take_word : goal.returns-in_err-take_word
returns-in_err-take_word g c =
    let m = g.E.Entry in
    let laws = g.met.E.Entry in
    let p = c.args.physical in
    let bytes = c.args.bytes.now in
    let next = c.in-Some.ensures.steps in
    let bad : false ≡ good_word (m.reads p) (length c.loop-k.out) c.in-Some.k c.in-Some.word.bits = search rules in
    let refused : c.from_residual.result ≡ Err (BadWord c.args.card_block c.in-Some.k) = search rules in
    let s =
    stop (m.reads p) (words bytes) c.args.out.now c.loop-k.k-iterator.count _ c.loop-k.out c.loop-k.invariant.3 c.in-Some.k c.in-Some.word.bits
    _ next.1 next.0 c.take_word.new.out c.take_word.ensures.entries bad in
    let t = told m.packed (m.reads p) (m.valid p) (laws.accepts p) (laws.packs p) c.args.card_block bytes c.told-bytes c.fits-bytes c.args.out.now c.from_residual.result c.take_word.new.out
    (refused ∙ ap (unless_bad c.args.card_block) (sym s.0)) s.1 in
    record { value = t.value; entries = t.entries; first = t.first; back = t.back }

pub returns : goal.returns
returns g c =
    let m = g.E.Entry in
    let laws = g.met.E.Entry in
    let p = c.args.physical in
    let bytes = c.args.bytes.now in
    let e = end (m.reads p) (words bytes) c.args.out.now c.loop-k.k-iterator.count _ c.loop-k.out c.loop-k.invariant.3 c.in-None.ensures.steps.0.0 in
    let t = told m.packed (m.reads p) (m.valid p) (laws.accepts p) (laws.packs p) c.args.card_block bytes c.told-bytes c.fits-bytes c.args.out.now (Ok tt) c.loop-k.out
    (ap (unless_bad c.args.card_block) (sym e.0)) e.1 in
    record { value = t.value; entries = t.entries; first = t.first; back = t.back }
