-- What a card means. A card has a fixed number of blocks. A block has a present content, which a read answers, and
-- contents in doubt: those that a loss of power may leave in it. A content is 512 bytes; that each is below 256 comes from
-- the buffer that it is read into, and not from here.
use Rattle.std.specs.Prelude.{◌≡◌, ℕ, ◌<◌, ◌≤◌, ◌⊎◌, List, [], ◌∷◌, length, ◌≢◌}

abbrev pub Content : Type 0
Content = List ℕ

pub record Meaning : Type 0 where
  pub size : ℕ
  pub present : ℕ → Content
  pub doubt : ℕ → List Content

-- x is one of the list
abbrev pub In : {A : Type 0} → A → List A → Type 0
In x [] = ⊥
In x (y ∷ ys) = (x ≡ y) ⊎ In x ys

-- what holds of every card: at most 65,535 blocks, present contents are in doubt, and contents are 512 bytes
pub record Sound (m : Meaning) : Type 0 where
  pub few : m.size ≤ 65535
  pub in_doubt : (b : ℕ) → b < m.size → In (m.present b) (m.doubt b)
  pub whole : (b : ℕ) (x : Content) → b < m.size → In x (m.doubt b) → length x ≡ 512

-- A write of c to block b makes c present there. In doubt there are then c and at most what was in doubt before. The
-- other blocks keep their present contents and gain no doubt.
pub record Wrote (m : Meaning) (b : ℕ) (c : Content) (n : Meaning) : Type 0 where
  pub size : n.size ≡ m.size
  pub here : n.present b ≡ c
  pub there : (k : ℕ) → k < m.size → (k ≢ b) → n.present k ≡ m.present k
  pub doubt_here : (x : Content) → In x (n.doubt b) → (x ≡ c) ⊎ In x (m.doubt b)
  pub doubt_there : (k : ℕ) (x : Content) → k < m.size → (k ≢ b) → In x (n.doubt k) → In x (m.doubt k)

-- A barrier changes no present content. After it only present contents are in doubt.
pub record Flushed (m n : Meaning) : Type 0 where
  pub size : n.size ≡ m.size
  pub present : (b : ℕ) → b < m.size → n.present b ≡ m.present b
  pub settled : (b : ℕ) (x : Content) → b < m.size → In x (n.doubt b) → x ≡ n.present b

-- A loss of power leaves each block with one of its contents in doubt as present, and no other in doubt.
pub record Lost (m n : Meaning) : Type 0 where
  pub size : n.size ≡ m.size
  pub present : (b : ℕ) → b < m.size → In (n.present b) (m.doubt b)
  pub settled : (b : ℕ) (x : Content) → b < m.size → In x (n.doubt b) → x ≡ n.present b
