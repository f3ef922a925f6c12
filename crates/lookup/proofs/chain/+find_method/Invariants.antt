-- The measure is what is left. Each return is a law of `ClimbLaws`.
use Rattle.lookup.proofs.chain.+find_method.Given as goal

abbrev pub decreases-find_method : goal.decreases-find_method
decreases-find_method l = l.left
