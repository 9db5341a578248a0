-- The header of a volume: its words, and the tests that an opening makes of them.
use Rattle.std.specs.Prelude.{ℕ, Bool, if◌then◌else◌, List, [], ◌∷◌, Ok, Err, Result, ◌==◌, slice_index}
use Rattle.std.specs.Result.{result_and}
use Rattle.cards.specs.declared.fault.Fault.{Fault}
use Rattle.cards.specs.declared.fault.Fault.TheVariants.{Version, RuleNumber}
use Rattle.cards.specs.declared.fault.Layer.TheVariants.{Table}
use Rattle.tables.specs.declared.layout.Shape.{Shape}
use Rattle.tables.specs.Entries.{whole_read}
use Rattle.tables.specs.Layouts.{shape, shape_of}
use Rattle.tables.specs.Tables.{first_bad, unless_bad}

-- The first words: the version, the numbers of logical and physical blocks, and the rule's number. The others are zero.
abbrev pub header_words : Shape → ℕ → List ℕ
header_words s rule = 1 ∷ s.logical ∷ s.physical ∷ rule ∷ []

-- a test: passed, or refused
abbrev pub test : Bool → Fault → Result (Unit {0}) Fault
test passed fault = if passed then Ok tt else Err fault

-- what the words of a header answer to an opening under the rule of this number, by tests in this order
abbrev pub header_read : ℕ → List ℕ → Result Shape Fault
header_read rule ws =
    result_and (test (slice_index ws 0 == 1) Version)
    (result_and (shape_of Table (slice_index ws 1) (slice_index ws 2))
    (result_and (test (slice_index ws 3 == rule) RuleNumber)
    (result_and (unless_bad 0 (first_bad (whole_read 0) 4 0 ws))
    (Ok (shape (slice_index ws 1) (slice_index ws 2))))))
