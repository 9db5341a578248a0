-- The word that each entry packs to, the entry that a word stands for, and which entries may stand in a table. P is the
-- number of physical blocks.
use Rattle.std.specs.Prelude.{ℕ, ◌^◌, ◌<◌, ◌≤◌, if◌then◌else◌, ◌&&◌, Some, None, Option, option_map, ◌==◌, nat_le, nat_lt}
use Rattle.tables.specs.declared.entry.PhysicalBlock.{PhysicalBlock}
use Rattle.tables.specs.declared.entry.Count.{Count}
use Rattle.tables.specs.declared.entry.Print.{Print}
use Rattle.tables.specs.declared.word.Kind.TheVariants as kind
use Rattle.tables.specs.declared.word.Word.{Word}
use Rattle.tables.specs.Words.{of_kind, value_of, word_of}

abbrev pub physical_block : ℕ → PhysicalBlock
physical_block n = record { number = n }

abbrev pub count_of : ℕ → Count
count_of n = record { number = n }

abbrev pub print_of : ℕ → Print
print_of v = record { value = v }

-- The number of a physical block below P, which a link names. It has the 30 bits of a value; as P is at most 2,048, that
-- asks nothing more.
abbrev pub block_word : PhysicalBlock → ℕ
block_word b = word_of kind.Link b.number

abbrev pub block_read : ℕ → ℕ → Option PhysicalBlock
block_read p w = if of_kind kind.Link w && nat_lt (value_of w) p then Some (physical_block (value_of w)) else None

abbrev pub BlockValid : ℕ → PhysicalBlock → Type 0
BlockValid p b = (b.number < p) × (b.number < 2 ^ 30)

-- A count is 0 to 4,095, and never blank.
abbrev pub count_word : Count → ℕ
count_word c = word_of kind.Count c.number

abbrev pub count_read : ℕ → ℕ → Option Count
count_read p w = if of_kind kind.Count w && nat_le (value_of w) 4095 then Some (count_of (value_of w)) else None

abbrev pub CountValid : ℕ → Count → Type 0
CountValid p c = c.number ≤ 4095

-- A fingerprint is any word of its kind.
abbrev pub fingerprint_word : Print → ℕ
fingerprint_word f = word_of kind.Print f.value

abbrev pub fingerprint_read : ℕ → ℕ → Option Print
fingerprint_read p w = if of_kind kind.Print w then Some (print_of (value_of w)) else None

abbrev pub FingerprintValid : ℕ → Print → Type 0
FingerprintValid p f = f.value < 2 ^ 30

-- Where an entry is never blank, the blank word says that there is none.
abbrev pub blank_or : {E : Type 0} → (E → ℕ) → Option E → ℕ
blank_or packed None = 0
blank_or packed (Some e) = packed e

abbrev pub blank_or_read : {E : Type 0} → (ℕ → ℕ → Option E) → ℕ → ℕ → Option (Option E)
blank_or_read reads p w = if w == 0 then Some None else option_map (λ e. Some e) (reads p w)

abbrev pub BlankOrValid : {E : Type 0} → (ℕ → E → Type 0) → ℕ → Option E → Type 0
BlankOrValid valid p None = Unit {0}
BlankOrValid valid p (Some e) = valid p e

-- A link is blank, or names a block below P.
abbrev pub link_word : Option PhysicalBlock → ℕ
link_word = blank_or block_word

abbrev pub link_read : ℕ → ℕ → Option (Option PhysicalBlock)
link_read = blank_or_read block_read

abbrev pub LinkValid : ℕ → Option PhysicalBlock → Type 0
LinkValid = BlankOrValid BlockValid

-- A print is blank, or of its kind.
abbrev pub print_word : Option Print → ℕ
print_word = blank_or fingerprint_word

abbrev pub print_read : ℕ → ℕ → Option (Option Print)
print_read = blank_or_read fingerprint_read

abbrev pub PrintValid : ℕ → Option Print → Type 0
PrintValid = BlankOrValid FingerprintValid

-- A word of the header stands for itself.
abbrev pub whole_word : Word → ℕ
whole_word w = w.bits

abbrev pub whole_read : ℕ → ℕ → Option Word
whole_read p w = Some (record { bits = w })

abbrev pub WholeValid : ℕ → Word → Type 0
WholeValid p w = w.bits < 2 ^ 32
