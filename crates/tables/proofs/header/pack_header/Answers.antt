use Rattle.std.proofs.Common.{◌≡◌, ◌^◌, ◌<◌, ap, ◌∙◌, arith, rules}
use Rattle.tables.specs.Tables.{block_of}
use Rattle.tables.proofs.HeaderTests.{at, four_words, packed_passes}
use Rattle.tables.proofs.header.pack_header.Goals as goal

pub returns-clause-bytes : goal.returns-clause-bytes
returns-clause-bytes g c =
    let shape = c.args.shape in
    let id = g.R.Rule.id c.args.rule.now in
    let ys = c.map.result in
    let e = c.map.ensures.items.each in
    let version : at ys 0 ≡ 1 = search rules in
    let logical : at ys 1 ≡ shape.logical = search rules in
    let physical : at ys 2 ≡ shape.physical = search rules in
    let number : at ys 3 ≡ id = search rules in
    c.pack_block.ensures.bytes ∙ ap block_of (four_words 1 shape.logical shape.physical id ys c.map.ensures.items.long version logical physical number)

pub returns-clause-back : goal.returns-clause-back
returns-clause-back g c =
    let shape = c.args.shape in
    let id = g.R.Rule.id c.args.rule.now in
    let small : id < 2 ^ 30 = g.met.R.Rule.numbered c.args.rule.now in
    packed_passes shape id c.pack_block.result (search rules) (search rules) (omega arith) (returns-clause-bytes g c)
