-- How points and a standing are written, as in `1.5` and `round 2, Anna 1.5`.
use Rattle.std.specs.Prelude.{ℕ, suc, ◌*◌, ◌/◌, ◌%◌, List, [], ◌∷◌, ◌++◌, codes, decimal}
use Rattle.cards.specs.Blocks.{content}
use Rattle.cards.specs.Meanings.{Content}
use Rattle.demo.specs.declared.standing.Points.{Points}
use Rattle.demo.specs.declared.standing.Standing.{Standing}

-- the whole points, and a half as five tenths
abbrev pub points_text : Points → List ℕ
points_text p = decimal (p.halves / 2) ++ (codes "." ++ decimal (p.halves % 2 * 5))

abbrev pub standing_text : Standing → List ℕ
standing_text s =
    codes "round "
    ++ (decimal s.round
    ++ (codes ", "
    ++ (s.player.now
    ++ (codes " "
    ++ points_text s.points))))

-- the writes of a round: its first line to block k, and the others to the blocks after it
abbrev pub writes_from : ℕ → List Standing → List (ℕ × Content)
writes_from k [] = []
writes_from k (s ∷ ss) = (k, content (standing_text s)) ∷ writes_from (suc k) ss
