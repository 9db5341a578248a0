-- The places of a shelf, as the logic lists them.
use Rattle.std.specs.Prelude.{List, map}
use Rattle.cards.specs.Shelves.{Held}
use Rattle.cards.specs.declared.place.Place.{Place}

-- the block number and the bytes of each place
abbrev pub listed : List Place → List Held
listed ps = map (λ (p : Place). (p.block, p.bytes)) ps
