-- The line of text in a block: the bytes before the first zero.
use Rattle.std.specs.Prelude.{◌≡◌, ℕ, ◌<◌, ◌≤◌, List, length, ◌≢◌, slice_index}

-- the line ends before place n
pub record Ends (block : List ℕ) (n : ℕ) : Type 0 where
  pub within : n ≤ length block
  pub before : (k : ℕ) → k < n → slice_index block k ≢ 0
  pub at_zero : n < length block → slice_index block n ≡ 0
