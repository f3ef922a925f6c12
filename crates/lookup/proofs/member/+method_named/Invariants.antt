-- The measure is what is left. Each return is a law of `MemberLaws`.
use Rattle.lookup.proofs.member.+method_named.Given as goal

abbrev pub decreases-method_named : goal.decreases-method_named
decreases-method_named l = l.left
