use Rattle.std.proofs.Common.{◌∙◌, arith}
use Rattle.cards.proofs.BlockLaws.{copied_block_is}
use Rattle.cards.proofs.blocks.copy_block.Goals as goal

pub returns : goal.returns
returns c = c.copy_within.ensures.after ∙ copied_block_is c.args.bytes.now c.args.from c.args.to _ (omega arith)
