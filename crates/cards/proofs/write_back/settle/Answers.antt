use Rattle.std.proofs.Common.{◌<◌, cond, ap, ◌∙◌, arith}
use Rattle.cards.specs.WriteBackCards.{pairs, kept, fresh}
use Rattle.cards.proofs.WriteBackLaws.{midway_fresh, midway_kept}
use Rattle.cards.proofs.write_back.settle.Goals as goal
use Rattle.cards.proofs.write_back.settle.Goals.{then-stays, else-stays}

pub loop-b-preserved : goal.loop-b-preserved
loop-b-preserved g c = λ f chosen.
    let xs = c.args.bytes.now in
    let ys = c.loop-b.bytes in
    let b = c.loop-b.b in
    let lt : b < pairs xs = omega arith in
    let mid = c.loop-b.invariant f chosen in
    let is = chosen b c.stays.result lt c.stays.ensures in
    elim c.if-stays.branch [
      | then-stays w ↦ midway_fresh f xs ys _ b _ c.count-n.ensures lt mid (is ∙ ap (λ t. cond t (fresh xs b) (kept xs b)) w.if-stays.true) (w.bytes-is ∙ w.copy_block.ensures)
      | else-stays w ↦ midway_kept f xs ys _ b _ c.count-n.ensures lt mid (is ∙ ap (λ t. cond t (fresh xs b) (kept xs b)) w.if-stays.false) (w.bytes-is ∙ w.copy_block-else-stays.ensures)
    ]
