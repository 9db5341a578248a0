use Rattle.std.proofs.Common.{◌++◌, drop, replicate, ap, ◌∙◌, arith}
use Rattle.cards.proofs.BlockLaws.{content_cut}
use Rattle.cards.proofs.content.content_of.Goals as goal

pub returns : goal.returns
returns c =
    let n = c.min-n.result in
    ap (λ xs. xs ++ drop n (replicate 512 0)) c.copy_from_slice.ensures.after ∙ content_cut c.args.bytes.now n (omega arith)
