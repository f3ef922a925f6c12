-- The measure is what is left. Each return is a law of `ClimbLaws`.
use Rattle.lookup.proofs.ClimbLaws.{find-no-more, find-no-class, find-here, find-next}
use Rattle.lookup.proofs.chain.+find_method.Goals as goal

pub returns-then-left-eq0 : goal.returns-then-left-eq0
returns-then-left-eq0 t c = search find-no-more

pub returns-then-class-ge-ABSENT : goal.returns-then-class-ge-ABSENT
returns-then-class-ge-ABSENT t c = search find-no-class

pub returns-then-row-lt-ABSENT : goal.returns-then-row-lt-ABSENT
returns-then-row-lt-ABSENT t c = search find-here

pub returns : goal.returns
returns t c = search find-next
