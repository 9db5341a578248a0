-- Where a volume lies on its card. Card block 0 is the header. Then come the blocks of the link table, of the count table
-- and of the print table, and then the physical blocks.
use Rattle.std.specs.Prelude.{◌≡◌, ℕ, ◌+◌, ◌-◌, ◌*◌, ◌/◌, ◌<◌, ◌≤◌, min, Bool, true, if◌then◌else◌, ◌&&◌, Some, None, Ok, Err, Option, Result, nat_le, nat_lt}
use Rattle.std.specs.Result.{result_and}
use Rattle.cards.specs.declared.fault.Extent.{Extent}
use Rattle.cards.specs.declared.fault.Extent.TheVariants.{Logical, Physical}
use Rattle.cards.specs.declared.fault.Fault.{Fault}
use Rattle.cards.specs.declared.fault.Fault.TheVariants.{VolumeSize}
use Rattle.cards.specs.declared.fault.Layer.{Layer}
use Rattle.tables.specs.declared.layout.Shape.{Shape}
use Rattle.tables.specs.declared.layout.Table.{Table}
use Rattle.tables.specs.declared.layout.Table.TheVariants.{Links, Counts, Prints}
use Rattle.tables.specs.declared.layout.TableBlock.{TableBlock}

abbrev pub shape : ℕ → ℕ → Shape
shape l p = record { logical = l; physical = p }

-- A volume has 1 to 2,048 logical blocks, and 1 to 2,048 physical ones.
abbrev pub sized : ℕ → Bool
sized n = nat_le 1 n && nat_le n 2048

abbrev pub ValidShape : Shape → Type 0
ValidShape s = (sized s.logical ≡ true) × (sized s.physical ≡ true)

-- a number of blocks, or the refusal of the layer that asks
abbrev pub sized_or : Layer → Extent → ℕ → Result ℕ Fault
sized_or layer extent n = if sized n then Ok n else Err (VolumeSize layer extent)

abbrev pub shape_of : Layer → ℕ → ℕ → Result Shape Fault
shape_of layer l p = result_and (sized_or layer Logical l) (result_and (sized_or layer Physical p) (Ok (shape l p)))

-- how many blocks a table of n entries takes: 128 entries to a block, the last block may have fewer
abbrev pub blocks_for : ℕ → ℕ
blocks_for n = (n + 127) / 128

-- how many entries a table has: a link for each logical block, a count and a print for each physical one
abbrev pub entries_of : Shape → Table → ℕ
entries_of s Links = s.logical
entries_of s Counts = s.physical
entries_of s Prints = s.physical

-- the first table block of a table: the links come first, then the counts, then the prints
abbrev pub first_block : Shape → Table → ℕ
first_block s Links = 0
first_block s Counts = blocks_for s.logical
first_block s Prints = blocks_for s.logical + blocks_for s.physical

-- the first table block after those of a table
abbrev pub end_block : Shape → Table → ℕ
end_block s t = first_block s t + blocks_for (entries_of s t)

-- how many table blocks there are
abbrev pub table_blocks : Shape → ℕ
table_blocks s = blocks_for s.logical + blocks_for s.physical + blocks_for s.physical

-- the card block of physical block p
abbrev pub card_block_of : Shape → ℕ → ℕ
card_block_of s p = 1 + table_blocks s + p

abbrev pub blocks_needed : Shape → ℕ
blocks_needed s = 1 + table_blocks s + s.physical

-- table block n as a block of the table t, from its first block on
abbrev pub part : Shape → Table → ℕ → TableBlock
part s t n = record {
  table = t;
  card_block = 1 + n;
  first = (n - first_block s t) * 128;
  entries = min (entries_of s t - (n - first_block s t) * 128) 128;
}

-- table block n
abbrev pub table_block : Shape → ℕ → Option TableBlock
table_block s n =
    if nat_lt n (first_block s Counts) then Some (part s Links n)
    else (if nat_lt n (first_block s Prints) then Some (part s Counts n)
    else (if nat_lt n (table_blocks s) then Some (part s Prints n) else None))

-- Table block n holds entry i of the table t.
pub record Holds (s : Shape) (t : Table) (i : ℕ) (n : ℕ) : Type 0 where
  pub block : TableBlock
  pub is : table_block s n ≡ Some block
  pub of_table : block.table ≡ t
  pub from : block.first ≤ i
  pub to : i < block.first + block.entries

-- Each entry of each table is in one table block, and in no other.
abbrev pub EachInOne : Shape → Type 0
EachInOne s = (t : Table) (i : ℕ) → i < entries_of s t → (n : ℕ) × Holds s t i n × ((m : ℕ) → Holds s t i m → m ≡ n)
