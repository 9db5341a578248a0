use Rattle.std.proofs.Common.{◌≡◌, take}
use Rattle.tables.specs.Rules.{fnv_1a}
use Rattle.tables.proofs.fnv.fnv_1a.Given as goal

abbrev pub invariant-loop-byte : goal.invariant-loop-byte
invariant-loop-byte l = l.hash ≡ fnv_1a (take l.byte-index l.bytes)
