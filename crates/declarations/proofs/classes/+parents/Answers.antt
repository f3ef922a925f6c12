-- The measure is what is left. Each return is a law of `ClassLaws`.
use Rattle.declarations.proofs.ClassLaws.{parents-none-left, parents-absent, parents-orphan, parents-next}
use Rattle.declarations.proofs.classes.+parents.Goals as goal

pub returns-then-row-ge-ABSENT : goal.returns-then-row-ge-ABSENT
returns-then-row-ge-ABSENT t c = search parents-absent

pub returns-then-left-eq0 : goal.returns-then-left-eq0
returns-then-left-eq0 t c = search parents-none-left

pub returns-then-is_orphan : goal.returns-then-is_orphan
returns-then-is_orphan t c = search parents-orphan

pub returns : goal.returns
returns t c = search parents-next
