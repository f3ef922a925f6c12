-- Each return is a law of `StatementLaws`.
use Rattle.std.proofs.lemmas.Result.{err_from_is_err_and}
use Rattle.bodies.proofs.StatementLaws.{print-int, print-fixed, print-wrong, print-refused}
use Rattle.bodies.proofs.stmt.printed.Goals as goal

pub returns-then-t-eq-INT : goal.returns-then-t-eq-INT
returns-then-t-eq-INT c = search (print-int, c.in_ok-t.was)

pub returns-then-t-eq-FIXED : goal.returns-then-t-eq-FIXED
returns-then-t-eq-FIXED c = search (print-fixed, c.in_ok-t.was)

pub returns : goal.returns
returns c = search (print-wrong, c.in_ok-t.was)

pub returns-in_err-t : goal.returns-in_err-t
returns-in_err-t c =
    let p = err_from_is_err_and c.from_residual.result c.from_residual.ensures.1 in
    rw (p.1, p.2) (search (print-refused, c.in_err-t.was))
