-- The measure is what is left. Each return is a law of `ExpressionLaws`.
use Rattle.bodies.proofs.ExpressionLaws.{count_none, count-ends, count-short, count_next}
use Rattle.bodies.proofs.expr.+same_count.Goals as goal

pub returns-then-a-ge-ABSENT : goal.returns-then-a-ge-ABSENT
returns-then-a-ge-ABSENT t c = search count-ends

pub returns-then-p-ge-ABSENT : goal.returns-then-p-ge-ABSENT
returns-then-p-ge-ABSENT t c = search count-short

pub returns-then-left-eq0 : goal.returns-then-left-eq0
returns-then-left-eq0 t c = search count_none

pub returns : goal.returns
returns t c = search count_next
