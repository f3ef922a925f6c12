-- Each return is a law of `StatementLaws`.
use Rattle.std.proofs.lemmas.Result.{err_from_is_err_and}
use Rattle.bodies.proofs.StatementLaws.{element-wrong, element-value, element-refused}
use Rattle.bodies.proofs.stmt.element_store.Goals as goal

pub returns-then-t-lt-ARRAY : goal.returns-then-t-lt-ARRAY
returns-then-t-lt-ARRAY c = search (element-wrong, c.in_ok-t.was)

pub returns : goal.returns
returns c = search (element-value, c.in_ok-t.was)

pub returns-in_err-t : goal.returns-in_err-t
returns-in_err-t c =
    let p = err_from_is_err_and c.from_residual.result c.from_residual.ensures.1 in
    rw (p.1, p.2) (search (element-refused, c.in_err-t.was))
