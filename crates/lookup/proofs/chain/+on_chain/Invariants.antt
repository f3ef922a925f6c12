-- The measure is what is left. Each return is a law of `ClimbLaws`.
use Rattle.lookup.proofs.chain.+on_chain.Given as goal

abbrev pub decreases-on_chain : goal.decreases-on_chain
decreases-on_chain l = l.left
