-- The measure is what is left. Each return is a law of `MemberLaws`.
use Rattle.lookup.proofs.member.+variable_type.Given as goal

abbrev pub decreases-variable_type : goal.decreases-variable_type
decreases-variable_type l = l.left
