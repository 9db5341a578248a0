-- Bytes as a run of blocks of 512 bytes, one after another.
use Rattle.std.specs.Prelude.{ℕ, ◌+◌, ◌*◌, ◌/◌, min, List, ◌++◌, take, drop, replicate}

-- how many blocks a card shows of memory of this length, at so many bytes for each: at most 65,535
abbrev pub shown_blocks : ℕ → ℕ → ℕ
shown_blocks len each = min (len / each) 65535

-- Bytes as the content of a block: others than 512 are cut, or filled up with zeros.
abbrev pub content : List ℕ → List ℕ
content xs = take 512 (xs ++ replicate 512 0)

-- the block at place p
abbrev pub block_at : List ℕ → ℕ → List ℕ
block_at xs p = take 512 (drop (p * 512) xs)

-- the run with the block c at place p
abbrev pub put_block : List ℕ → ℕ → List ℕ → List ℕ
put_block xs p c = take (p * 512) xs ++ (c ++ drop (p * 512 + 512) xs)
