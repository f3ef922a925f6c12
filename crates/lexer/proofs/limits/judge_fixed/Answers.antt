-- `lexer::limits::judge_fixed` meets its contract: the tests of the definition in their order.
use native.Mathlib.Omega.{arith}
use mathlib.Core.Path.{◌∙◌}
use Rattle.lexer.proofs.Folds.{whole_part, whole-inside, three-behind, others-behind}
use Rattle.lexer.proofs.Verdicts.{fixed_zero, fixed-short, fixed-counted}
use Rattle.lexer.proofs.limits.judge_fixed.Goals as goal

pub slice_bounds-starts_with_zero-end : goal.slice_bounds-starts_with_zero-end
slice_bounds-starts_with_zero-end c = omega (arith, whole-inside c.args.text.now c.whole_end-point.ensures)

pub returns-then-starts_with_zero : goal.returns-then-starts_with_zero
returns-then-starts_with_zero c =
    fixed_zero c.args.text.now (whole_part c.args.text.now c.whole_end-point.ensures) c.starts_with_zero.ensures c.if-starts_with_zero.true

pub overflow_sub-text : goal.overflow_sub-text
overflow_sub-text c = whole-inside c.args.text.now c.whole_end-point.ensures

pub returns-then-text-point-ne-FRACTION : goal.returns-then-text-point-ne-FRACTION
returns-then-text-point-ne-FRACTION c =
    fixed-short c.args.text.now (whole_part c.args.text.now c.whole_end-point.ensures) c.starts_with_zero.ensures c.if-starts_with_zero.false (others-behind c.args.text.now c.whole_end-point.ensures c.if-text-point-ne-FRACTION.true)

pub returns : goal.returns
returns c =
    c.literal.ensures
    ∙ fixed-counted c.args.text.now (whole_part c.args.text.now c.whole_end-point.ensures) c.starts_with_zero.ensures c.if-starts_with_zero.false
    (three-behind c.args.text.now c.whole_end-point.ensures c.if-text-point-ne-FRACTION.false) c.thousandths_of.ensures
