use Rattle.std.proofs.Common.{ap, ◌∙◌, rules}
use Rattle.cards.specs.Shelves.{place_of}
use Rattle.cards.proofs.PlacesSearch.{IsLastOf, last_is}
use Rattle.cards.proofs.place.Places.find.Goals as goal

pub returns-clause-value : goal.returns-clause-value
returns-clause-value c =
    let last : IsLastOf c.in_use.result.now c.args.b c.rposition.result = search rules in
    last_is _ c.args.b _ last ∙ ap (λ hs. place_of hs c.args.b) c.in_use.ensures
