-- The measure is what is left. Each return is a law of `BodyLaws`.
use Rattle.std.proofs.lemmas.Result.{err_from_is_err_and}
use Rattle.typecheck.proofs.BodyLaws.{methods-none, methods-end, methods-next, methods-refused}
use Rattle.typecheck.proofs.method.+methods.Goals as goal

pub returns-then-row-ge-ABSENT : goal.returns-then-row-ge-ABSENT
returns-then-row-ge-ABSENT t c = search methods-end

pub returns-then-left-eq0 : goal.returns-then-left-eq0
returns-then-left-eq0 t c = search methods-none

pub returns : goal.returns
returns t c = search (methods-next, c.in_ok-body.was)

pub returns-in_err-body : goal.returns-in_err-body
returns-in_err-body t c =
    let p = err_from_is_err_and c.from_residual.result c.from_residual.ensures.1 in
    rw (p.1, p.2) (search (methods-refused, c.in_err-body.was))
