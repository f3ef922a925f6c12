-- `assignment` meets its contract. Each return is a law of `Statements`.
use native.Mathlib.Omega.{arith}
use mathlib.Core.Path.{refl}
use Rattle.parser.proofs.Matched.{past}
use Rattle.parser.proofs.Wholes.{passed-on, behind, not-behind, nothing, with-one, refused}
use Rattle.parser.proofs.Statements.{assign-missing, assign-ok}
use Rattle.parser.proofs.stmt.assignment.Goals as goal

pub returns-in_err-start : goal.returns-in_err-start
returns-in_err-start c =
    rw (passed-on c.from_residual.ensures.1)
    (assign-missing c.requires.1 c.kind.ensures c.if-kind-eq-OPEN_BRACKET.false c.in_err-start.ensures)

pub operation-requires : goal.operation-requires
operation-requires c = omega (arith, c.requires.0, past (omega arith) c.in_ok-start.ensures)

pub returns-in_err-value : goal.returns-in_err-value
returns-in_err-value c =
    rw (passed-on c.from_residual-in_err-value.ensures.1)
    (assign-ok c.requires.1 c.kind.ensures c.if-kind-eq-OPEN_BRACKET.false c.requires.0.few c.in_ok-start.ensures c.in_err-value.ensures nothing refused)

pub returns-in_err-next : goal.returns-in_err-next
returns-in_err-next c =
    rw (passed-on c.from_residual-in_err-next.ensures.1)
    (assign-ok c.requires.1 c.kind.ensures c.if-kind-eq-OPEN_BRACKET.false c.requires.0.few c.in_ok-start.ensures c.in_ok-value.ensures (not-behind refl c.in_err-next.ensures) refused)

pub node-requires : goal.node-requires
node-requires c = omega (arith, c.requires.0, past (omega arith) c.in_ok-start.ensures, c.in_ok-value.ensures.within)

pub returns : goal.returns
returns c =
    assign-ok c.requires.1 c.kind.ensures c.if-kind-eq-OPEN_BRACKET.false c.requires.0.few c.in_ok-start.ensures c.in_ok-value.ensures (behind refl c.in_ok-next.ensures) (with-one c.node.ensures)
