-- `parent` meets its contract: each return is a law of `Methods`.
use Rattle.parser.proofs.Wholes.{passed-on}
use Rattle.parser.proofs.Methods.{parent-none, parent-some, parent-name}
use Rattle.parser.proofs.decl.parent.Goals as goal

pub returns-in_err-next : goal.returns-in_err-next
returns-in_err-next c =
    rw (passed-on c.from_residual.ensures.1)
    (parent-name c.kind.ensures c.if-kind-eq-EXTENDS.true c.in_err-next.ensures)

pub returns-then-kind-eq-EXTENDS : goal.returns-then-kind-eq-EXTENDS
returns-then-kind-eq-EXTENDS c = parent-some c.kind.ensures c.if-kind-eq-EXTENDS.true c.requires.0 c.in_ok-next.ensures

pub returns : goal.returns
returns c = search parent-none
