-- The measure is what is left. Each return is a law of `MemberLaws`.
use Rattle.lookup.proofs.member.+count.Given as goal

abbrev pub decreases-count : goal.decreases-count
decreases-count l = l.left
