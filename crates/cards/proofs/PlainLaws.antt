-- A write to the plain card is a card's write.
use Rattle.std.proofs.Common.{◌≡◌, ℕ, ◌+◌, ◌*◌, ◌<◌, ◌≤◌, List, length, sym, ap, ◌∙◌, subst, inl, ⊎_elim, arith}
use Rattle.cards.specs.Blocks.{shown_blocks, put_block}
use Rattle.cards.specs.Meanings.{Wrote}
use Rattle.cards.specs.PlainCards.{plain}
use Rattle.cards.proofs.BlockLaws.{block_at-put_block, block_at-put_block_other, length-put_block}

put_wrote : (xs c : List ℕ) (b : ℕ) → length c ≡ 512 → b < (plain xs).size → Wrote (plain xs) b c (plain (put_block xs b c))
put_wrote xs c b whole lt =
    let within : b * 512 + 512 ≤ length xs = omega arith in
    let here = block_at-put_block xs c b whole within in
    let other = block_at-put_block_other xs c b whole within in
    record {
      size = ap (λ n. shown_blocks n 512) (length-put_block xs c b whole within);
      here = here;
      there = λ k l ne. other k ne;
      doubt_here = λ x. ⊎_elim (λ is. inl (is ∙ here)) (λ none. absurd none);
      doubt_there = λ k x l ne. ⊎_elim (λ is. inl (is ∙ other k ne)) (λ none. absurd none);
    }

pub plain_wrote : (xs c zs : List ℕ) (b : ℕ) → (length c ≡ 512) × (b < (plain xs).size) → zs ≡ put_block xs b c → Wrote (plain xs) b c (plain zs)
plain_wrote xs c zs b ok is = subst (λ zs. Wrote (plain xs) b c (plain zs)) (sym is) (put_wrote xs c b ok.0 ok.1)
