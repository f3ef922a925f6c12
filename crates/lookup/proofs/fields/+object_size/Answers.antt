-- The measure is what is left. Each return is a law of `FieldLaws`.
use Rattle.lookup.proofs.FieldLaws.{size-none-left, size_top, size-more}
use Rattle.lookup.proofs.fields.+object_size.Goals as goal

pub returns-then-left-eq0 : goal.returns-then-left-eq0
returns-then-left-eq0 t c = search size-none-left

pub returns-then-class-ge-ABSENT : goal.returns-then-class-ge-ABSENT
returns-then-class-ge-ABSENT t c = search size_top

pub returns : goal.returns
returns t c = search size-more
