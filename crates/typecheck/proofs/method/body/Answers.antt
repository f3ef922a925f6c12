-- Each return is a law of `BodyLaws`.
use Rattle.std.proofs.lemmas.Result.{err_from_is_err_and}
use Rattle.typecheck.proofs.BodyLaws.{body-carried, body_refused}
use Rattle.typecheck.proofs.method.body.Goals as goal

pub returns : goal.returns
returns c = search (body-carried, c.in_ok-variables.was)

pub returns-in_err-variables : goal.returns-in_err-variables
returns-in_err-variables c =
    let p = err_from_is_err_and c.from_residual.result c.from_residual.ensures.1 in
    rw (p.1, p.2) (search (body_refused, c.in_err-variables.was))
