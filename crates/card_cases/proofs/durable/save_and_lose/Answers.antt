use Rattle.std.proofs.Common.{◌<◌, cond, length, true, is_ok, refl, ap, ◌∙◌, arith}
use Rattle.cards.proofs.Admitted.{admitted}
use Rattle.cards.proofs.Outlives.{when_true_is}
use Rattle.card_cases.proofs.durable.save_and_lose.Goals as goal

pub returns-clause-buffer : goal.returns-clause-buffer
returns-clause-buffer g c =
    let s = c.in_ok-save.ensures in
    let b = c.args.b in
    let m = g.C.Card.meaning c.args.card.now in
    let o = g.C.Card.meaning c.save.new.card in
    let here : b < m.size = (admitted m.size b (length c.args.block.now) tt s.value).1 in
    let lt : b < o.size = omega (arith, s.size) in
    let kept = (s.durable (refl {a = true})).settled _ (c.lose_power.ensures.card.present b lt) in
    c.read.ensures.buffer ∙ ap (λ x. cond (is_ok c.read.result) x c.args.buffer.now) kept

pub returns-clause-card : goal.returns-clause-card
returns-clause-card g c =
    let s = c.in_ok-save.ensures in
    when_true_is _ _ _ (ap is_ok s.value) (s.card.0, c.save.new.card, s.card.1, s.card.2, c.lose_power.ensures.exact)
