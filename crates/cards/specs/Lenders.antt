-- Who lent a card its memory. The logic follows lent memory by a name. A card that keeps the names of what it was lent
-- leaves its lender able to tell what the memory holds when the card is done with it.
use Rattle.std.specs.Prelude.{List, [], ◌∷◌}
use Rattle.std.specs.Borrow.{GName, MutBor}

abbrev pub Names : Type 0
Names = List GName

-- a card over this one loan
abbrev pub loan : {X : Type 0} → MutBor X → Names
loan r = r.ghost_name ∷ []
