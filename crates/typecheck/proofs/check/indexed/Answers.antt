-- Each return is a law of `VerdictLaws`.
use Rattle.std.proofs.lemmas.Result.{err_from_is_err_and}
use Rattle.typecheck.proofs.VerdictLaws.{indexed-found, indexed-later, indexed-refused}
use Rattle.typecheck.proofs.check.indexed.Goals as goal

pub returns : goal.returns
returns c = search (indexed-found, c.in_ok-parents.was, c.in_ok-chained.was)

pub returns-in_err-chained : goal.returns-in_err-chained
returns-in_err-chained c =
    let p = err_from_is_err_and c.from_residual-in_err-chained.result c.from_residual-in_err-chained.ensures.1 in
    rw (p.1, p.2) (search (indexed-later, c.in_ok-parents.was, c.in_err-chained.was))

pub returns-in_err-parents : goal.returns-in_err-parents
returns-in_err-parents c =
    let p = err_from_is_err_and c.from_residual.result c.from_residual.ensures.1 in
    rw (p.1, p.2) (search (indexed-refused, c.in_err-parents.was))
