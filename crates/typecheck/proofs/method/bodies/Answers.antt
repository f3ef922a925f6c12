-- Each return is a law of `BodyLaws`.
use Rattle.std.proofs.lemmas.Result.{err_from_is_err_and}
use Rattle.typecheck.proofs.BodyLaws.{bodies-classes, bodies-main}
use Rattle.typecheck.proofs.method.bodies.Goals as goal

pub returns : goal.returns
returns c = search (bodies-classes, c.in_ok-single.was)

pub returns-in_err-single : goal.returns-in_err-single
returns-in_err-single c =
    let p = err_from_is_err_and c.from_residual.result c.from_residual.ensures.1 in
    rw (p.1, p.2) (search (bodies-main, c.in_err-single.was))
