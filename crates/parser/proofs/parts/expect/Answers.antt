-- `expect` meets its contract: a token of a kind that is not 0 is there.
use native.Mathlib.Omega.{arith}
use mathlib.Core.Path.{sym, ap, ◌∙◌}
use Rattle.parser.specs.Parse.{accepts}
use Rattle.parser.specs.promises.Parts.{present, missing}
use Rattle.parser.proofs.Laws.{there-by}
use Rattle.parser.proofs.Matched.{zero-refused}
use Rattle.parser.proofs.parts.expect.Goals as goal

pub overflow_add-result : goal.overflow_add-result
overflow_add-result c =
    let l = there-by (accepts c.args.wanted) (zero-refused c.args.wanted c.requires.2) c.args.table.now c.args.n c.args.i _ c.kind.ensures
    (sym c.accepts.ensures ∙ c.if-accepts.true) in
    omega (arith, c.requires)

pub returns-then-accepts : goal.returns-then-accepts
returns-then-accepts c = present (ap (accepts c.args.wanted) (sym c.kind.ensures) ∙ sym c.accepts.ensures ∙ c.if-accepts.true)

pub returns-else-accepts : goal.returns-else-accepts
returns-else-accepts c = missing (ap (accepts c.args.wanted) (sym c.kind.ensures) ∙ sym c.accepts.ensures ∙ c.if-accepts.false)
