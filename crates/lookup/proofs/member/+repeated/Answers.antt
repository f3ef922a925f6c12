-- The measure is what is left. Each return is a law of `MemberLaws`.
use Rattle.lookup.proofs.MemberLaws.{repeated-none, repeated-here, repeated-next}
use Rattle.lookup.proofs.member.+repeated.Goals as goal

pub returns-then-count-eq0 : goal.returns-then-count-eq0
returns-then-count-eq0 t c = search repeated-none

pub returns-then-word-x : goal.returns-then-word-x
returns-then-word-x t c = search repeated-here

pub returns : goal.returns
returns t c = search repeated-next
