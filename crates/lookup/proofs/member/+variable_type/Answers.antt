-- The measure is what is left. Each return is a law of `MemberLaws`.
use Rattle.lookup.proofs.MemberLaws.{variable-none-left, variable-absent, variable-here, variable-next}
use Rattle.lookup.proofs.member.+variable_type.Goals as goal

pub returns-then-left-eq0 : goal.returns-then-left-eq0
returns-then-left-eq0 t c = search variable-none-left

pub returns-then-row-ge-ABSENT : goal.returns-then-row-ge-ABSENT
returns-then-row-ge-ABSENT t c = search variable-absent

pub returns-then-word-x : goal.returns-then-word-x
returns-then-word-x t c = search variable-here

pub returns : goal.returns
returns t c = search variable-next
