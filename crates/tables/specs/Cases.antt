-- Worked cases, as one list of statements that follow from the definitions.
use Rattle.std.specs.Prelude.{◌≡◌, ℕ, List, [], ◌∷◌, replicate, if◌then◌else◌, ◌&&◌, Some, None, Ok, Err, codes, Option, Result, ◌==◌, nat_lt}
use Rattle.cards.specs.Faults.{number_of}
use Rattle.cards.specs.declared.fault.Extent.TheVariants.{Logical}
use Rattle.cards.specs.declared.fault.Fault.{Fault}
use Rattle.cards.specs.declared.fault.Fault.TheVariants.{BadWord, VolumeSize}
use Rattle.cards.specs.declared.fault.Layer.TheVariants.{Table}
use Rattle.tables.specs.Entries.{physical_block, count_of, print_of, link_word, link_read, LinkValid, count_word, count_read, print_word, print_read, PrintValid}
use Rattle.tables.specs.Headers.{header_words, header_read}
use Rattle.tables.specs.Layouts.{shape, blocks_for, table_blocks, blocks_needed}
use Rattle.tables.specs.Rules.{fold_30, fnv_1a, word_sum}
use Rattle.tables.specs.Tables.{block_of, unpack_answer}
use Rattle.tables.specs.Words.{of_kind, value_of, bytes_of, words}
use Rattle.tables.specs.declared.word.Kind.TheVariants as kind

-- each of the statements holds
abbrev pub Hold : List (Type 0) → Type 0
Hold [] = Unit {0}
Hold (P ∷ Ps) = P × Hold Ps

-- what unpacking card block 1 to one entry answers, if this is its first word and the others are zero
abbrev one_entry : {E : Type 0} → (ℕ → Option E) → ℕ → Result (Unit {0}) Fault
one_entry read w = unpack_answer 1 read 1 (block_of (w ∷ []))

-- the print word of 512 equal bytes under rule 2
abbrev sum_word : ℕ → ℕ
sum_word byte = print_word (Some (print_of (fold_30 (word_sum (replicate 512 byte)))))

abbrev pub worked : List (Type 0)
worked =
    -- with 6 physical blocks, a link to block 5, and one to block 6
    (link_word (Some (physical_block 5)) ≡ 0x40000005)
    ∷ (link_read 6 0x40000005 ≡ Some (Some (physical_block 5)))
    ∷ (one_entry (link_read 6) 0x40000005 ≡ Ok tt)
    ∷ (one_entry (link_read 6) 0x40000006 ≡ Err (BadWord 1 0))
    ∷ (number_of (BadWord 1 0) ≡ 9)
    ∷ LinkValid 6 (Some (physical_block 5))
    -- a link and a print, read from any word
    ∷ ((p w : ℕ) → link_read p w ≡ (if w == 0 then Some None else (if of_kind kind.Link w && nat_lt (value_of w) p then Some (Some (physical_block (value_of w))) else None)))
    ∷ ((p w : ℕ) → print_read p w ≡ (if w == 0 then Some None else (if of_kind kind.Print w then Some (Some (print_of (value_of w))) else None)))
    -- the greatest count, and one more
    ∷ (count_word (count_of 4095) ≡ 0x80000FFF)
    ∷ (one_entry (count_read 6) 0x80000FFF ≡ Ok tt)
    ∷ (one_entry (count_read 6) 0x80001000 ≡ Err (BadWord 1 0))
    -- the print words of two contents under rule 2
    ∷ (sum_word 0x41 ≡ 0xE0A0A082)
    ∷ (sum_word 0x42 ≡ 0xE1212100)
    -- a small volume, the largest, and one that is too large
    ∷ (table_blocks (shape 3 2) ≡ 3)
    ∷ (blocks_needed (shape 3 2) ≡ 6)
    ∷ (blocks_needed (shape 2048 2048) ≡ 2097)
    ∷ (header_read 1 (words (block_of (header_words (shape 3 2) 1))) ≡ Ok (shape 3 2))
    ∷ (header_read 1 (words (block_of (header_words (shape 2049 2048) 1))) ≡ Err (VolumeSize Table Logical))
    ∷ (number_of (VolumeSize Table Logical) ≡ 5)
    -- 128 links fill one block, and 129 take two
    ∷ (blocks_for 128 ≡ 1)
    ∷ (blocks_for 129 ≡ 2)
    ∷ (table_blocks (shape 129 1) ≡ 4)
    -- blank words, and a word after the last entry
    ∷ PrintValid 6 None
    ∷ (one_entry (link_read 6) 0 ≡ Ok tt)
    ∷ (one_entry (print_read 6) 0 ≡ Ok tt)
    ∷ (one_entry (count_read 6) 0 ≡ Err (BadWord 1 0))
    ∷ (unpack_answer 1 (link_read 6) 1 (block_of (0x40000005 ∷ 0 ∷ 7 ∷ [])) ≡ Err (BadWord 1 2))
    -- the order of a word's bytes, and published FNV-1a hashes
    ∷ (bytes_of 0x40000005 ≡ 5 ∷ 0 ∷ 0 ∷ 0x40 ∷ [])
    ∷ (fnv_1a [] ≡ 0x811C9DC5)
    ∷ (fnv_1a (codes "a") ≡ 0xE40C292C)
    ∷ (fnv_1a (codes "foobar") ≡ 0xBF9CF968)
    ∷ []
