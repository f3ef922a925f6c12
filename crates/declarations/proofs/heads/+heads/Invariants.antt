-- The measure is what is left. Each return is a law of `HeadLaws`.
use Rattle.declarations.proofs.heads.+heads.Given as goal

abbrev pub decreases-heads : goal.decreases-heads
decreases-heads l = l.left
