use Rattle.std.proofs.Common.{map}
use Rattle.tables.proofs.Packing.{Packed}
use Rattle.tables.proofs.table.pack_block.Given as goal

abbrev pub invariant-loop-i : goal.invariant-loop-i
invariant-loop-i g l = Packed (map g.E.Entry.packed l.entries) l.i l.words
