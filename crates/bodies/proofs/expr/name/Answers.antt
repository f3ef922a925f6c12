-- Each return is a law of `ExpressionLaws`.
use Rattle.bodies.proofs.ExpressionLaws.{name-known, name-unknown}
use Rattle.bodies.proofs.expr.name.Goals as goal

pub returns-then-t-lt-NOTHING : goal.returns-then-t-lt-NOTHING
returns-then-t-lt-NOTHING c = search name-known

pub returns : goal.returns
returns c = search name-unknown
