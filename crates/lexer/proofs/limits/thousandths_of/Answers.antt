-- `lexer::limits::thousandths_of` meets its contract: the value of the digits before the point goes on over those behind it.
use mathlib.Core.Path.{◌∙◌}
use Rattle.lexer.proofs.Folds.{whole_part, fraction-part, whole-small, counted-more, counted-past}
use Rattle.lexer.proofs.limits.thousandths_of.Goals as goal

pub value_of-requires-2 : goal.value_of-requires-2
value_of-requires-2 c =
    whole-small c.args.text.now (whole_part c.args.text.now c.requires.0) (fraction-part c.args.text.now c.requires.0) c.value_of.ensures c.in_ok-whole.was

pub returns-in_err-whole : goal.returns-in_err-whole
returns-in_err-whole c =
    c.from_residual.ensures
    ∙ counted-past c.args.text.now (whole_part c.args.text.now c.requires.0) (fraction-part c.args.text.now c.requires.0) c.value_of.ensures c.in_err-whole.was

pub returns : goal.returns
returns c =
    counted-more c.args.text.now (whole_part c.args.text.now c.requires.0) (fraction-part c.args.text.now c.requires.0) c.value_of.ensures c.in_ok-whole.was c.value_of-2.ensures
