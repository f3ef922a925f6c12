-- The measure is what is left. Each return is a law of `ClimbLaws`.
use Rattle.lookup.proofs.chain.+count_visits.Given as goal

abbrev pub decreases-count_visits : goal.decreases-count_visits
decreases-count_visits l = l.left
