use Rattle.tables.proofs.EntryPlaces.{each_in_one}
use Rattle.tables.proofs.layout.Shape.table_blocks.Goals as goal

pub returns-clause-covers : goal.returns-clause-covers
returns-clause-covers c = each_in_one c.args.self
