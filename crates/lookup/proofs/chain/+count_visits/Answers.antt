-- The measure is what is left. Each return is a law of `ClimbLaws`.
use Rattle.lookup.proofs.ClimbLaws.{count-no-more, count-no-class, count-here, count_next}
use Rattle.lookup.proofs.chain.+count_visits.Goals as goal

pub returns-then-left-eq0 : goal.returns-then-left-eq0
returns-then-left-eq0 t c = search count-no-more

pub returns-then-class-ge-ABSENT : goal.returns-then-class-ge-ABSENT
returns-then-class-ge-ABSENT t c = search count-no-class

pub returns-then-row-lt-ABSENT : goal.returns-then-row-lt-ABSENT
returns-then-row-lt-ABSENT t c = search count-here

pub returns : goal.returns
returns t c = search count_next
