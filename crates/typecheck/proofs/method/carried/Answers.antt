-- Each return is a law of `BodyLaws`.
use Rattle.std.proofs.lemmas.Result.{err_from_is_err_and}
use Rattle.typecheck.proofs.BodyLaws.{carried-value, carried-refused}
use Rattle.typecheck.proofs.method.carried.Goals as goal

pub returns : goal.returns
returns c = search (carried-value, c.in_ok-list.was)

pub returns-in_err-list : goal.returns-in_err-list
returns-in_err-list c =
    let p = err_from_is_err_and c.from_residual.result c.from_residual.ensures.1 in
    rw (p.1, p.2) (search (carried-refused, c.in_err-list.was))
