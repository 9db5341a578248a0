use Rattle.std.proofs.Common.{◌<◌, rules}
use Rattle.std.proofs.Math.Seq.{take-set-lt}
use Rattle.std.proofs.lemmas.List.{map-set}
use Rattle.cards.proofs.place.Places.replace.Goals as goal

pub returns : goal.returns
returns c =
    let lt : c.args.i < c.self.inside.used = search rules in
    rw (← c.self.view_is, take-set-lt c.self.inside.used c.self.inside.all c.args.i c.store.new.self lt) (simp (map-set, c.store.ensures.block, c.store.ensures.bytes))
