-- The measure is how many classes may still come. Each return is a law of `NameLaws`.
use Rattle.encoder.proofs.names.+classes.Given as goal

abbrev pub decreases-classes : goal.decreases-classes
decreases-classes l = l.left
