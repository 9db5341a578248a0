use Rattle.std.proofs.Common.{rules}
use Rattle.demo.proofs.table.text_length.Goals as goal

pub returns : goal.returns
returns c = record { within = search rules; before = search rules; at_zero = search rules }
