-- The measure is what is left. Each return is a law of `MemberLaws`.
use Rattle.lookup.proofs.MemberLaws.{count-none-left, count-absent, count_next}
use Rattle.lookup.proofs.member.+count.Goals as goal

pub returns-then-left-eq0 : goal.returns-then-left-eq0
returns-then-left-eq0 t c = search count-none-left

pub returns-then-row-ge-ABSENT : goal.returns-then-row-ge-ABSENT
returns-then-row-ge-ABSENT t c = search count-absent

pub returns : goal.returns
returns t c = search count_next
