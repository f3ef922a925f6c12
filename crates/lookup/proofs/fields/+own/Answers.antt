-- The measure is what is left. Each return is a law of `FieldLaws`.
use Rattle.lookup.proofs.FieldLaws.{own-none-left, own-absent, own-written, own-past}
use Rattle.lookup.proofs.fields.+own.Goals as goal

pub returns-then-left-eq0 : goal.returns-then-left-eq0
returns-then-left-eq0 t c = search own-none-left

pub returns-then-row-ge-ABSENT : goal.returns-then-row-ge-ABSENT
returns-then-row-ge-ABSENT t c = search own-absent

pub returns-then-x-lt-ABSENT : goal.returns-then-x-lt-ABSENT
returns-then-x-lt-ABSENT t c = search own-written

pub returns-else-x-lt-ABSENT : goal.returns-else-x-lt-ABSENT
returns-else-x-lt-ABSENT t c = search own-past
