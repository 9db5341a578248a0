-- The plain card over lent bytes: block b starts at byte b * 512, and only present contents are in doubt.
use Rattle.std.specs.Prelude.{ℕ, if◌then◌else◌, List, [], ◌∷◌, length, is_ok}
use Rattle.cards.specs.Answers.{answer}
use Rattle.cards.specs.Blocks.{shown_blocks, block_at, put_block}
use Rattle.cards.specs.Meanings.{Content, Meaning}

abbrev pub plain : List ℕ → Meaning
plain xs = record {
  size = shown_blocks (length xs) 512;
  present = λ b. block_at xs b;
  doubt = λ b. block_at xs b ∷ [];
}

-- the bytes after a write of c to block b: the block is c, and every other byte is as it was
abbrev pub plain_write : List ℕ → ℕ → Content → List ℕ
plain_write xs b c = if is_ok (answer (plain xs).size b (length c)) then put_block xs b c else xs
