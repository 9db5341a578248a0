use Rattle.std.proofs.Common.{◌≡◌, ◌+◌, length}
use Rattle.tables.specs.Words.{words}
use Rattle.tables.proofs.Unpacking.{Reached}
use Rattle.tables.proofs.table.unpack_block.Given as goal

abbrev pub invariant-loop-k : goal.invariant-loop-k
invariant-loop-k g l =
    (goal.iterator-loop-k g).can_next l.k-iterator ×
    (goal.iterator-loop-k g).is_finite l.k-iterator ×
    (l.k-iterator.count + length (words l.k-iterator.iter.left.now) ≡ 128) ×
    Reached (g.E.Entry.reads l.physical) (words l.bytes) l.initial.out l.k-iterator.count (words l.k-iterator.iter.left.now) l.out
