use Rattle.std.proofs.Common.{◌≡◌, rules, ℕ, ◌+◌, ◌<◌, List, [], length, get_or, take, drop, refl, sym, subst, inl, inr, arith, add-one, drop-cons, length-take}
use Rattle.std.proofs.lemmas.List.{get_or-take, drop_all}
use Rattle.cards.specs.Answers.{answer, Written, MeantWrite, WroteEach}
use Rattle.cards.specs.Blocks.{content}
use Rattle.cards.specs.Meanings.{Meaning}
use Rattle.cards.specs.SoundCards.{length-content}
use Rattle.demo.specs.declared.standing.Standing.{Standing}
use Rattle.demo.specs.Standings.{standing_text, writes_from}
use Rattle.demo.proofs.save_round.Goals as goal

-- line b of the round, and then the lines after it
line_first : (ss : List Standing) (d : Standing) (b : ℕ) (m n o : Meaning) → b < length ss → Written (answer m.size b 512) m b (content (standing_text (get_or ss b d))) n
    → WroteEach MeantWrite (writes_from (b + 1) (drop (b + 1) ss)) n o → WroteEach MeantWrite (writes_from b (drop b ss)) m o
line_first ss d b m n o lt w rest =
    let text = standing_text (get_or ss b d) in
    let wrote : MeantWrite m b (content text) n = rw (length-content text) w in
    subst (λ ls. WroteEach MeantWrite (writes_from b ls) m o) (sym (drop-cons ss b d lt)) (n, wrote, rw add-one at rest)

-- the same of the first n lines
line_next : (ss : List Standing) (d : Standing) (b n : ℕ) (m k o : Meaning) → b < n → b < length ss → Written (answer m.size b 512) m b (content (standing_text (get_or ss b d))) k
    → WroteEach MeantWrite (writes_from (b + 1) (drop (b + 1) (take n ss))) k o → WroteEach MeantWrite (writes_from b (drop b (take n ss))) m o
line_next ss d b n m k o lt within w rest =
    let same : get_or (take n ss) b d ≡ get_or ss b d = get_or-take n ss b d lt in
    line_first (take n ss) d b m k o (simp length-take (omega arith)) (rw same w) rest

-- of the first n lines none is left after them
none_left : (ss : List Standing) (n : ℕ) (m : Meaning) → WroteEach MeantWrite (writes_from n (drop n (take n ss))) m m
none_left ss n m =
    let none : drop n (take n ss) ≡ [] = drop_all n (take n ss) (simp length-take (omega arith)) in
    rw none refl

pub loop-b-preserved : goal.loop-b-preserved
loop-b-preserved g c = λ n m le rest. c.loop-b.invariant n m (omega arith) (search (rules, line_next))

pub returns-in_err-save_line-clause-failed : goal.returns-in_err-save_line-clause-failed
returns-in_err-save_line-clause-failed g c =
    let ss = c.args.round.now in
    let b = c.loop-b.b in
    let k = g.C.Card.meaning c.save_line.new.card in
    elim c.save_line.ensures.failed [
      | inl saved ↦ (b + 1, omega arith, c.loop-b.invariant (b + 1) k (omega arith) (line_next ss _ b (b + 1) _ k k (omega arith) c.loop-b-test.true saved (none_left ss (b + 1) k)))
      | inr same ↦ (b, omega arith, c.loop-b.invariant b k (omega arith) (rw same (none_left ss b _)))
    ]
