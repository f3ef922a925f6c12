-- The measure is what is left. Each return is a law of `MemberLaws`.
use Rattle.lookup.proofs.MemberLaws.{method-none-left, method-absent, method-here, method-next}
use Rattle.lookup.proofs.member.+method_named.Goals as goal

pub returns-then-left-eq0 : goal.returns-then-left-eq0
returns-then-left-eq0 t c = search method-none-left

pub returns-then-row-ge-ABSENT : goal.returns-then-row-ge-ABSENT
returns-then-row-ge-ABSENT t c = search method-absent

pub returns-then-word-m : goal.returns-then-word-m
returns-then-word-m t c = search method-here

pub returns : goal.returns
returns t c = search method-next
