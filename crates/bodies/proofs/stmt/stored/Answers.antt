-- Each return is a law of `StatementLaws`.
use Rattle.std.proofs.lemmas.Result.{err_from_is_err_and}
use Rattle.bodies.proofs.StatementLaws.{value-second, value-first}
use Rattle.bodies.proofs.stmt.stored.Goals as goal

pub returns : goal.returns
returns c = search (value-second, c.in_ok-operand.was)

pub returns-in_err-operand : goal.returns-in_err-operand
returns-in_err-operand c =
    let p = err_from_is_err_and c.from_residual.result c.from_residual.ensures.1 in
    rw (p.1, p.2) (search (value-first, c.in_err-operand.was))
