-- Writes, barriers and losses of the write-back card.
use Rattle.std.proofs.Common.{◌≡◌, ℕ, zero, suc, ◌+◌, ◌-◌, ◌*◌, ◌/◌, ◌%◌, ◌^◌, ◌<◌, ◌≤◌, Bool, true, ◌&&◌, eqb, ◌⊎◌, List, length, drop, is_ok, Ok, sym, refl, ap, ◌∙◌, subst, inl, inr, ⊎_elim, arith, below_more}
use Rattle.std.proofs.lemmas.Bool.{eq-eqb, cond-true}
use Rattle.std.proofs.lemmas.Bool.Decides.{Decides-below_and, Decides-eqb}
use Rattle.cards.specs.Answers.{answer}
use Rattle.cards.specs.Blocks.{shown_blocks, block_at, put_block}
use Rattle.cards.specs.Meanings.{Content, Wrote, Flushed, In}
use Rattle.cards.specs.SoundCards.{length-block_at}
use Rattle.cards.specs.WriteBackCards.{pairs, kept, fresh, write_back, back_write, fresh_stays, after_loss, Settled}
use Rattle.cards.proofs.BlockLaws.{block_at-put_block, block_at-put_block_other, drop-put_block, length-put_block}

same_pairs : (xs ys : List ℕ) → length ys ≡ length xs → pairs ys ≡ pairs xs
same_pairs xs ys e = ap (λ n. shown_blocks n 1024) e

fresh_at : (xs ys : List ℕ) (b : ℕ) → length ys ≡ length xs → fresh ys b ≡ block_at ys (pairs xs + b)
fresh_at xs ys b e = ap (λ n. block_at ys (n + b)) (same_pairs xs ys e)

-- ---- a write
put_wrote : (xs c : List ℕ) (b : ℕ) → length c ≡ 512 → b < pairs xs → Wrote (write_back xs) b c (write_back (put_block xs (pairs xs + b) c))
put_wrote xs c b whole lt =
    let p = pairs xs + b in
    let zs = put_block xs p c in
    let within : p * 512 + 512 ≤ length xs = omega arith in
    let size : length zs ≡ length xs = length-put_block xs c p whole within in
    let here : fresh zs b ≡ c = fresh_at xs zs b size ∙ block_at-put_block xs c p whole within in
    let there : (k : ℕ) → (k ≡ b → ⊥) → fresh zs k ≡ fresh xs k = λ k ne. fresh_at xs zs k size ∙ block_at-put_block_other xs c p whole within (pairs xs + k) (λ e. ne (omega arith)) in
    let stays : (k : ℕ) → k < pairs xs → kept zs k ≡ kept xs k = λ k l. block_at-put_block_other xs c p whole within k (λ e. omega arith) in
    record {
      size = same_pairs xs zs size;
      here = here;
      there = λ k l ne. there k ne;
      doubt_here = λ x. ⊎_elim (λ is. inl (is ∙ here)) (⊎_elim (λ is. inr (inr (inl (is ∙ stays b lt)))) (λ none. absurd none));
      doubt_there = λ k x l ne. ⊎_elim (λ is. inl (is ∙ there k ne)) (⊎_elim (λ is. inr (inl (is ∙ stays k l))) (λ none. absurd none));
    }

pub back_wrote : (xs c zs : List ℕ) (b : ℕ) → (length c ≡ 512) × (b < pairs xs) → zs ≡ put_block xs (pairs xs + b) c → Wrote (write_back xs) b c (write_back zs)
back_wrote xs c zs b ok is = subst (λ zs. Wrote (write_back xs) b c (write_back zs)) (sym is) (put_wrote xs c b ok.0 ok.1)

pub back_writes : (xs c zs : List ℕ) (b : ℕ) (u : Unit {0}) → Ok u ≡ answer (pairs xs) b (length c) → zs ≡ put_block xs (pairs xs + b) c → zs ≡ back_write xs b c
back_writes xs c zs b u e is = is ∙ sym (cond-true (is_ok (answer (pairs xs) b (length c))) _ _ (ap is_ok (sym e)))

-- ---- one copy over the other, block after block
-- both copies of the blocks below b hold what f gives, and all else is as it was
pub record Midway (f : ℕ → Content) (xs ys : List ℕ) (b : ℕ) : Type 0 where
  pub size : length ys ≡ length xs
  pub done : (k : ℕ) → k < b → (block_at ys k ≡ f k) × (block_at ys (pairs xs + k) ≡ f k)
  pub left : (k : ℕ) → b ≤ k → k < pairs xs → (block_at ys k ≡ kept xs k) × (block_at ys (pairs xs + k) ≡ fresh xs k)
  pub rest : drop (pairs xs * 1024) ys ≡ drop (pairs xs * 1024) xs

-- the two places of block b, in the order in which one is copied over the other
abbrev Copied : ℕ → ℕ → ℕ → ℕ → Type 0
Copied n b from to = ((from ≡ n + b) × (to ≡ b)) ⊎ ((from ≡ b) × (to ≡ n + b))

both : (zs c : List ℕ) (n b from to : ℕ) → Copied n b from to → block_at zs from ≡ c → block_at zs to ≡ c → (block_at zs b ≡ c) × (block_at zs (n + b) ≡ c)
both zs c n b from to (inl way) f t = (ap (block_at zs) (sym way.1) ∙ t, ap (block_at zs) (sym way.0) ∙ f)
both zs c n b from to (inr way) f t = (ap (block_at zs) (sym way.0) ∙ f, ap (block_at zs) (sym way.1) ∙ t)

put_more : (f : ℕ → Content) (xs ys : List ℕ) (b from to : ℕ) → b < pairs xs → Copied (pairs xs) b from to → block_at ys from ≡ f b
    → Midway f xs ys b → Midway f xs (put_block ys to (block_at ys from)) (b + 1)
put_more f xs ys b from to lt way is mid =
    let n = pairs xs in
    let same = mid.size in
    let apart : (k : ℕ) → k < n → (k ≡ b → ⊥) → (k ≡ to → ⊥) × (n + k ≡ to → ⊥) =
    λ k l ne. ⊎_elim (λ w. (λ e. ne (omega arith), λ e. omega arith)) (λ w. (λ e. omega arith, λ e. ne (omega arith))) way in
    let inside : from * 512 + 512 ≤ length ys = ⊎_elim (λ w. omega arith) (λ w. omega arith) way in
    let within : to * 512 + 512 ≤ length ys = ⊎_elim (λ w. omega arith) (λ w. omega arith) way in
    let early : to * 512 + 512 ≤ n * 1024 = ⊎_elim (λ w. omega arith) (λ w. omega arith) way in
    let apart-b : from ≡ to → ⊥ = λ e. ⊎_elim (λ w. omega arith) (λ w. omega arith) way in
    let c = block_at ys from in
    let zs = put_block ys to c in
    let whole : length c ≡ 512 = length-block_at ys from inside in
    let here : block_at zs to ≡ f b = block_at-put_block ys c to whole within ∙ is in
    let other : (q : ℕ) → (q ≡ to → ⊥) → block_at zs q ≡ block_at ys q = block_at-put_block_other ys c to whole within in
    record {
      size = length-put_block ys c to whole within ∙ same;
      done = below_more (λ k. (block_at zs k ≡ f k) × (block_at zs (n + k) ≡ f k)) b
          (λ k l. let ne = apart k (omega arith) (λ e. omega arith) in (other k ne.0 ∙ (mid.done k l).0, other (n + k) ne.1 ∙ (mid.done k l).1))
          (both zs (f b) n b from to way (other from apart-b ∙ is) here);
      left = λ k l m. let ne = apart k m (λ e. omega arith) in let was = mid.left k (omega arith) m in (other k ne.0 ∙ was.0, other (n + k) ne.1 ∙ was.1);
      rest = drop-put_block ys c to whole within (n * 1024) early ∙ mid.rest;
    }

-- the turn of block b in which the fresh copy stays, and the one in which the kept copy does
module _ (f : ℕ → Content) (xs ys zs : List ℕ) (b n : ℕ) (counted : n ≡ pairs xs) (lt : b < pairs xs) (mid : Midway f xs ys b) where
  turned : (from to : ℕ) → Copied (pairs xs) b from to → block_at ys from ≡ f b → zs ≡ put_block ys to (block_at ys from) → Midway f xs zs (b + 1)
  turned from to way is e = subst (λ zs. Midway f xs zs (b + 1)) (sym e) (put_more f xs ys b from to lt way is mid)

  pub midway_fresh : f b ≡ fresh xs b → zs ≡ put_block ys b (block_at ys (n + b)) → Midway f xs zs (b + 1)
  midway_fresh is e = turned (n + b) b (inl (ap (λ n. n + b) counted, refl)) (ap (λ n. block_at ys (n + b)) counted ∙ (mid.left b (omega arith) lt).1 ∙ sym is) e

  pub midway_kept : f b ≡ kept xs b → zs ≡ put_block ys (n + b) (block_at ys b) → Midway f xs zs (b + 1)
  midway_kept is e = turned b (n + b) (inr (refl, ap (λ n. n + b) counted)) ((mid.left b (omega arith) lt).0 ∙ sym is) e

-- ---- a barrier
only : (f : ℕ → Content) (xs ys : List ℕ) → Settled f xs ys → (b : ℕ) (x : Content) → b < pairs xs → In x ((write_back ys).doubt b) → x ≡ fresh ys b
only f xs ys s b x lt = ⊎_elim (λ is. is) (⊎_elim (λ is. is ∙ s.kept_is b lt ∙ sym (s.fresh_is b lt)) (λ none. absurd none))

pub back_flushed : (xs ys : List ℕ) → Settled (fresh xs) xs ys → Flushed (write_back xs) (write_back ys)
back_flushed xs ys s = record {
  size = same_pairs xs ys s.size;
  present = λ b l. s.fresh_is b l;
  settled = only (fresh xs) xs ys s;
}

-- ---- a barrier is a loss whose pattern has every bit set
bits_set : ℕ → Bool
bits_set zero = true
bits_set (suc k) = eqb ((2 ^ 64 - 1) / 2 ^ k % 2) 1 && bits_set k

all_set : (k : ℕ) → k < 64 → (2 ^ 64 - 1) / 2 ^ k % 2 ≡ 1
unfolding bits_set
all_set = (Decides-below_and _ (λ k. (2 ^ 64 - 1) / 2 ^ k % 2 ≡ 1) bits_set (λ k. Decides-eqb _ 1) refl (λ _. refl) 64).0 refl

all_left : (xs : List ℕ) (b : ℕ) → after_loss (2 ^ 64 - 1) xs b ≡ fresh xs b
all_left xs b = cond-true (fresh_stays (2 ^ 64 - 1) b) (fresh xs b) (kept xs b) (eq-eqb _ 1 (all_set (b % 64) (omega arith)))

pub settled_fresh : (xs ys : List ℕ) → Settled (after_loss (2 ^ 64 - 1) xs) xs ys → Settled (fresh xs) xs ys
settled_fresh xs ys s = record {
  size = s.size;
  kept_is = λ b l. s.kept_is b l ∙ all_left xs b;
  fresh_is = λ b l. s.fresh_is b l ∙ all_left xs b;
  rest = s.rest;
}
