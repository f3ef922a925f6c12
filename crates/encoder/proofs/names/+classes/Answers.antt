-- The measure is how many classes may still come. Each return is a law of `NameLaws`.
use Rattle.encoder.proofs.NameLaws.{classes-none, classes-end, classes-next}
use Rattle.encoder.proofs.names.+classes.Goals as goal

pub returns-then-left-eq0 : goal.returns-then-left-eq0
returns-then-left-eq0 t c = search classes-none

pub returns-then-row-ge-ABSENT : goal.returns-then-row-ge-ABSENT
returns-then-row-ge-ABSENT t c = search classes-end

pub returns : goal.returns
returns t c = search classes-next
