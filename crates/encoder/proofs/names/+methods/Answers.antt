-- The measure is how many methods may still come. Each return is a law of `NameLaws`.
use Rattle.encoder.proofs.NameLaws.{methods-none, methods-end, methods-next}
use Rattle.encoder.proofs.names.+methods.Goals as goal

pub returns-then-left-eq0 : goal.returns-then-left-eq0
returns-then-left-eq0 t c = search methods-none

pub returns-then-row-ge-ABSENT : goal.returns-then-row-ge-ABSENT
returns-then-row-ge-ABSENT t c = search methods-end

pub returns : goal.returns
returns t c = search methods-next
