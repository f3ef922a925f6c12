-- Each return is a law of `StatementLaws`.
use Rattle.std.proofs.lemmas.Result.{err_from_is_err_and}
use Rattle.bodies.proofs.StatementLaws.{assignment-refused, assignment-value}
use Rattle.bodies.proofs.stmt.assignment.Goals as goal

pub returns : goal.returns
returns c = search (assignment-value, c.in_ok-t.was)

pub returns-in_err-t : goal.returns-in_err-t
returns-in_err-t c =
    let p = err_from_is_err_and c.from_residual.result c.from_residual.ensures.1 in
    rw (p.1, p.2) (search (assignment-refused, c.in_err-t.was))
