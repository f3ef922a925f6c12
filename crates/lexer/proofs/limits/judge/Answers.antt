-- `lexer::limits::judge` meets its contract: the tests of the definition in their order.
use mathlib.Core.Path.{◌∙◌}
use Rattle.lexer.proofs.Verdicts.{verdict-many, verdict-long, verdict-name, verdict-zero, verdict-literal, verdict-fixed, verdict-plain}
use Rattle.lexer.proofs.limits.judge.Goals as goal

pub returns-then-count-eq-TOKENS_MOST : goal.returns-then-count-eq-TOKENS_MOST
returns-then-count-eq-TOKENS_MOST c =
    verdict-many c.args.count c.args.kind c.args.text.now c.if-count-eq-TOKENS_MOST.true

pub returns-then-text-gt-NAME_MOST : goal.returns-then-text-gt-NAME_MOST
returns-then-text-gt-NAME_MOST c =
    verdict-long c.args.count c.args.kind c.args.text.now c.if-count-eq-TOKENS_MOST.false c.is_name.ensures c.if-is_name.true c.if-text-gt-NAME_MOST.true

pub returns-then-is_name : goal.returns-then-is_name
returns-then-is_name c =
    verdict-name c.args.count c.args.kind c.args.text.now c.if-count-eq-TOKENS_MOST.false c.is_name.ensures c.if-is_name.true c.if-text-gt-NAME_MOST.false

pub returns-then-starts_with_zero : goal.returns-then-starts_with_zero
returns-then-starts_with_zero c =
    verdict-zero c.args.count c.args.kind c.args.text.now c.if-count-eq-TOKENS_MOST.false c.is_name.ensures
    c.if-is_name.false c.if-kind-eq-LITERAL.true c.starts_with_zero.ensures c.if-starts_with_zero.true

pub returns-then-kind-eq-LITERAL : goal.returns-then-kind-eq-LITERAL
returns-then-kind-eq-LITERAL c =
    c.literal.ensures
    ∙ verdict-literal c.args.count c.args.kind c.args.text.now c.if-count-eq-TOKENS_MOST.false c.is_name.ensures
    c.if-is_name.false c.if-kind-eq-LITERAL.true c.starts_with_zero.ensures c.if-starts_with_zero.false c.value_of.ensures

pub returns-then-kind-eq-FIXED_LITERAL : goal.returns-then-kind-eq-FIXED_LITERAL
returns-then-kind-eq-FIXED_LITERAL c =
    verdict-fixed c.args.count c.args.kind c.args.text.now c.if-count-eq-TOKENS_MOST.false c.is_name.ensures
    c.if-is_name.false c.if-kind-eq-FIXED_LITERAL.true c.judge_fixed.ensures

pub returns : goal.returns
returns c =
    verdict-plain c.args.count c.args.kind c.args.text.now c.if-count-eq-TOKENS_MOST.false c.is_name.ensures
    c.if-is_name.false c.if-kind-eq-LITERAL.false c.if-kind-eq-FIXED_LITERAL.false
