-- The measure is how many methods may still come. Each return is a law of `NameLaws`.
use Rattle.encoder.proofs.names.+methods.Given as goal

abbrev pub decreases-methods : goal.decreases-methods
decreases-methods l = l.left
