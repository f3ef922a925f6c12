-- `new_object` meets its contract. Each return is a law of `Postfix`.
use native.Mathlib.Omega.{arith}
use Rattle.parser.proofs.Matched.{past}
use Rattle.parser.proofs.Wholes.{passed-on}
use Rattle.parser.proofs.Postfix.{object-name, object-open, object-close, object-ok}
use Rattle.parser.proofs.expr.new_object.Goals as goal

pub returns-in_err-paren : goal.returns-in_err-paren
returns-in_err-paren c =
    rw (passed-on c.from_residual.ensures.1)
    (object-name c.requires.1 c.in_err-paren.ensures)

pub returns-in_err-close : goal.returns-in_err-close
returns-in_err-close c =
    rw (passed-on c.from_residual-in_err-close.ensures.1)
    (object-open c.requires.1 c.in_ok-paren.ensures c.in_err-close.ensures)

pub returns-in_err-next : goal.returns-in_err-next
returns-in_err-next c =
    rw (passed-on c.from_residual-in_err-next.ensures.1)
    (object-close c.requires.1 c.in_ok-paren.ensures c.in_ok-close.ensures c.in_err-next.ensures)

pub node-requires : goal.node-requires
node-requires c =
    omega (arith, c.requires.0, past (omega arith) c.in_ok-paren.ensures, past (omega arith) c.in_ok-close.ensures, past (omega arith) c.in_ok-next.ensures)

pub returns : goal.returns
returns c =
    object-ok c.requires.1 c.in_ok-paren.ensures c.in_ok-close.ensures c.in_ok-next.ensures c.node.ensures
