-- Each return is a law of `HeadLaws`.
use Rattle.std.proofs.lemmas.Result.{err_from_is_err_and}
use Rattle.declarations.proofs.HeadLaws.{rest-fine, rest-bad, rest-stop}
use Rattle.declarations.proofs.heads.rest.Goals as goal

pub returns-then-is_compatible : goal.returns-then-is_compatible
returns-then-is_compatible c = search (rest-fine, c.in_ok-variables.was)

pub returns : goal.returns
returns c = search (rest-bad, c.in_ok-variables.was)

pub returns-in_err-variables : goal.returns-in_err-variables
returns-in_err-variables c =
    let p = err_from_is_err_and c.from_residual.result c.from_residual.ensures.1 in
    rw (p.1, p.2) (search (rest-stop, c.in_err-variables.was))
