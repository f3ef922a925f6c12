-- The measure is what is left. Each return is a law of `HeadLaws`.
use Rattle.declarations.proofs.heads.+same_types.Given as goal

abbrev pub decreases-same_types : goal.decreases-same_types
decreases-same_types l = l.left
