-- The measure is what is left. Each return is a law of `HeightLaws`.
use Rattle.declarations.proofs.heights.+height.Given as goal

abbrev pub decreases-height : goal.decreases-height
decreases-height l = l.left
