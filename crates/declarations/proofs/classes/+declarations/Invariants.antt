-- The measure is what is left. Each return is a law of `ClassLaws`.
use Rattle.declarations.proofs.classes.+declarations.Given as goal

abbrev pub decreases-declarations : goal.decreases-declarations
decreases-declarations l = l.left
