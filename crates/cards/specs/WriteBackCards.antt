-- The write-back card over lent bytes. Of n blocks, block b has its kept copy at place b and its fresh copy at place
-- n + b of the bytes. The fresh copy is present, and both are in doubt.
use Rattle.std.specs.Prelude.{◌≡◌, ℕ, ◌+◌, ◌*◌, ◌/◌, ◌%◌, ◌^◌, ◌<◌, Bool, if◌then◌else◌, List, [], ◌∷◌, length, drop, is_ok, ◌==◌}
use Rattle.cards.specs.Answers.{answer}
use Rattle.cards.specs.Blocks.{shown_blocks, block_at, put_block}
use Rattle.cards.specs.Meanings.{Content, Meaning}

-- the number of blocks, each a pair of copies
abbrev pub pairs : List ℕ → ℕ
pairs xs = shown_blocks (length xs) 1024

abbrev pub kept : List ℕ → ℕ → Content
kept xs b = block_at xs b

abbrev pub fresh : List ℕ → ℕ → Content
fresh xs b = block_at xs (pairs xs + b)

abbrev pub write_back : List ℕ → Meaning
write_back xs = record {
  size = pairs xs;
  present = λ b. fresh xs b;
  doubt = λ b. fresh xs b ∷ (kept xs b ∷ []);
}

-- the bytes after a write of c to block b: the fresh copy is c, and every other byte is as it was
abbrev pub back_write : List ℕ → ℕ → Content → List ℕ
back_write xs b c = if is_ok (answer (pairs xs) b (length c)) then put_block xs (pairs xs + b) c else xs

-- whether a loss of power leaves block b its fresh copy: bit b mod 64 of the pattern, bit 0 the lowest
abbrev pub fresh_stays : ℕ → ℕ → Bool
fresh_stays pattern b = pattern / 2 ^ (b % 64) % 2 == 1

-- the content that a loss of power leaves in block b
abbrev pub after_loss : ℕ → List ℕ → ℕ → Content
after_loss pattern xs b = if fresh_stays pattern b then fresh xs b else kept xs b

-- f is the copy of each block that stays, its fresh one where the answer for the block is true
abbrev pub Chosen : (ℕ → Bool → Type 0) → List ℕ → (ℕ → Content) → Type 0
Chosen answers xs f = (b : ℕ) (stays : Bool) → b < pairs xs → answers b stays → f b ≡ (if stays then fresh xs b else kept xs b)

-- xs became ys: both copies of each block b now hold f b, and the bytes past the copies are as they were
pub record Settled (f : ℕ → Content) (xs ys : List ℕ) : Type 0 where
  pub size : length ys ≡ length xs
  pub kept_is : (b : ℕ) → b < pairs xs → kept ys b ≡ f b
  pub fresh_is : (b : ℕ) → b < pairs xs → fresh ys b ≡ f b
  pub rest : drop (pairs xs * 1024) ys ≡ drop (pairs xs * 1024) xs
