-- The measure is what is left. Each return is a law of `HeadLaws`.
use Rattle.declarations.proofs.HeadLaws.{types-none-left, types-first-ends, types-second-ends, types-next, types-differ}
use Rattle.declarations.proofs.heads.+same_types.Goals as goal

pub returns-then-a-ge-ABSENT : goal.returns-then-a-ge-ABSENT
returns-then-a-ge-ABSENT t c = search types-first-ends

pub returns-then-b-ge-ABSENT : goal.returns-then-b-ge-ABSENT
returns-then-b-ge-ABSENT t c = search types-second-ends

pub returns-then-left-eq0 : goal.returns-then-left-eq0
returns-then-left-eq0 t c = search types-none-left

pub returns-then-type_of : goal.returns-then-type_of
returns-then-type_of t c = search types-next

pub returns : goal.returns
returns t c = search types-differ
