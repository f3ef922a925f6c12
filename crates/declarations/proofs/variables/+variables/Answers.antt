-- The measure is what is left. Each return is a law of `VariableLaws`.
use Rattle.std.proofs.lemmas.Result.{err_from_is_err_and}
use Rattle.declarations.proofs.VariableLaws.{variables-none-left, variables-absent, variables-next, variables-stop}
use Rattle.declarations.proofs.variables.+variables.Goals as goal

pub returns-then-row-ge-ABSENT : goal.returns-then-row-ge-ABSENT
returns-then-row-ge-ABSENT t c = search variables-absent

pub returns-then-left-eq0 : goal.returns-then-left-eq0
returns-then-left-eq0 t c = search variables-none-left

pub returns : goal.returns
returns t c = search (variables-next, c.in_ok-variable.was)

pub returns-in_err-variable : goal.returns-in_err-variable
returns-in_err-variable t c =
    let p = err_from_is_err_and c.from_residual.result c.from_residual.ensures.1 in
    rw (p.1, p.2) (search (variables-stop, c.in_err-variable.was))
