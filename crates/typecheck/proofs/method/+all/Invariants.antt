-- The measure is what is left. Each return is a law of `BodyLaws`.
use Rattle.typecheck.proofs.method.+all.Given as goal

abbrev pub decreases-all : goal.decreases-all
decreases-all l = l.left
