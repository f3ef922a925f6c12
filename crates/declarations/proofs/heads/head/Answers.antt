-- Each return is a law of `HeadLaws`.
use Rattle.std.proofs.lemmas.Result.{err_from_is_err_and}
use Rattle.declarations.proofs.HeadLaws.{head-next, head-stop}
use Rattle.declarations.proofs.heads.head.Goals as goal

pub returns : goal.returns
returns c = search (head-next, c.in_ok-opening.was)

pub returns-in_err-opening : goal.returns-in_err-opening
returns-in_err-opening c =
    let p = err_from_is_err_and c.from_residual.result c.from_residual.ensures.1 in
    rw (p.1, p.2) (search (head-stop, c.in_err-opening.was))
