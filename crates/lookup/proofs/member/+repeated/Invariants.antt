-- The measure is what is left. Each return is a law of `MemberLaws`.
use Rattle.lookup.proofs.member.+repeated.Given as goal

abbrev pub decreases-repeated : goal.decreases-repeated
decreases-repeated l = l.count
