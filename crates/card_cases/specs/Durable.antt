-- What a block that was saved holds.
use Rattle.std.specs.Prelude.{◌≡◌, ℕ}
use Rattle.cards.specs.Meanings.{Content, Meaning, In}

-- Block b has the present content c, and no other in doubt.
pub record Durable (m : Meaning) (b : ℕ) (c : Content) : Type 0 where
  pub present : m.present b ≡ c
  pub settled : (x : Content) → In x (m.doubt b) → x ≡ c
