-- Each return is a law of `ExpressionLaws`.
use Rattle.bodies.proofs.ExpressionLaws.{object-known, object-unknown}
use Rattle.bodies.proofs.expr.new_object.Goals as goal

pub returns-then-known : goal.returns-then-known
returns-then-known c = search object-known

pub returns : goal.returns
returns c = search object-unknown
