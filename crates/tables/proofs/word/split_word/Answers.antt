use Rattle.std.proofs.Common.{◌≤◌, length, refl, arith, rules}
use Rattle.std.proofs.lemmas.List.{take_rest, length-drop}
use Rattle.tables.proofs.WordBytes.{words_four}
use Rattle.tables.proofs.word.split_word.Goals as goal

pub returns-in-len4-up : goal.returns-in-len4-up
returns-in-len4-up c =
    let xs = c.args.bytes.now in
    let long : 4 ≤ length xs = search rules in
    let rest = take_rest xs 4 in
    simp (rest, c.from_le_bytes-bits.ensures) (record { after = refl; shorter = simp length-drop (omega arith); first = words_four xs long })
