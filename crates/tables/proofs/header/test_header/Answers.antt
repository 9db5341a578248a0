use Rattle.std.proofs.Common.{Err, sym, ap, ◌∙◌}
use Rattle.std.proofs.lemmas.Result.{err_from_is_err_and}
use Rattle.tables.proofs.HeaderTests.{bad_size, after_rule}
use Rattle.tables.proofs.header.test_header.Goals as goal

pub returns-in_err-shape : goal.returns-in_err-shape
returns-in_err-shape c =
    let p = err_from_is_err_and c.from_residual.result c.from_residual.ensures.1 in
    p.1 ∙ ap (λ f. Err f) p.2
    ∙ sym (bad_size c.args.rule c.args.bytes.now c.told-bytes _ c.unpack_block-tail.ensures.entries c.if-version-ne-VERSION.false _ (sym c.in_err-shape.ensures))

pub returns-in_err-tail : goal.returns-in_err-tail
returns-in_err-tail c =
    let p = err_from_is_err_and c.from_residual-in_err-tail.result c.from_residual-in_err-tail.ensures.1 in
    p.1 ∙ ap (λ f. Err f) p.2
    ∙ sym (after_rule c.args.rule c.args.bytes.now c.told-bytes _ c.unpack_block-tail.ensures.entries c.if-version-ne-VERSION.false _ (sym c.in_ok-shape.ensures) c.if-number-rule.false _ c.in_err-tail.ensures.value)
