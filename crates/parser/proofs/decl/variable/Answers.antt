-- `variable` meets its contract: each return is a law of `Variables`.
use native.Mathlib.Omega.{arith}
use Rattle.parser.proofs.Matched.{past}
use Rattle.parser.proofs.Wholes.{passed-on}
use Rattle.parser.proofs.Variables.{variable-bad, variable-name, variable-ok}
use Rattle.parser.proofs.decl.variable.Goals as goal

pub put-requires : goal.put-requires
put-requires c = omega (arith, c.requires, c.in_ok-of_type.ensures.within, past (omega arith) c.in_ok-next.ensures)

pub returns-in_err-of_type : goal.returns-in_err-of_type
returns-in_err-of_type c = rw (passed-on c.from_residual.ensures.1) (variable-bad c.in_err-of_type.ensures, tt)

pub returns-in_err-next : goal.returns-in_err-next
returns-in_err-next c = rw (passed-on c.from_residual-in_err-next.ensures.1) (variable-name c.in_ok-of_type.ensures c.in_err-next.ensures, tt)

pub returns : goal.returns
returns c = variable-ok c.in_ok-of_type.ensures c.in_ok-next.ensures c.put.ensures
