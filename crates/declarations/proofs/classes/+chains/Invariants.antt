-- The measure is what is left. Each return is a law of `HeightLaws`.
use Rattle.declarations.proofs.classes.+chains.Given as goal

abbrev pub decreases-chains : goal.decreases-chains
decreases-chains l = l.left
