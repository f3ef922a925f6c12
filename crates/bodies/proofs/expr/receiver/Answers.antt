-- Each return is a law of `ExpressionLaws`.
use Rattle.bodies.proofs.ExpressionLaws.{this-main, this-object}
use Rattle.bodies.proofs.expr.receiver.Goals as goal

pub returns-then-s-ge-ABSENT : goal.returns-then-s-ge-ABSENT
returns-then-s-ge-ABSENT c = search this-main

pub returns : goal.returns
returns c = search this-object
