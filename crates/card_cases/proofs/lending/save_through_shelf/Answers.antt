use Rattle.std.proofs.Common.{subst, rules}
use Rattle.card_cases.specs.Durable.{Durable}
use Rattle.card_cases.proofs.Saved.{durable_below, saved_empties}
use Rattle.card_cases.proofs.lending.save_through_shelf.Goals as goal

pub returns-clause-durable : goal.returns-clause-durable
returns-clause-durable g c =
    let m = g.C.Card in
    let b = c.args.b in
    let x = c.args.block.now in
    let u = c.save.new.card in
    λ ok.
    let empty = saved_empties (λ k y z l. m.writes k.now y z l.now) (λ k. m.meaning k.now) (λ k l. m.flushes k.now l.now) _ u c.save.result b x ok c.save.ensures.card in
    subst (λ card. Durable (m.meaning card) b x) (search rules) (durable_below (λ k. m.meaning k.now) u b x empty (c.save.ensures.durable ok))
