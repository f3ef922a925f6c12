-- The measure is how many classes may still come. Each return is a law of `TableLaws`.
use Rattle.encoder.proofs.tables.+of_method.Given as goal

abbrev pub decreases-of_method : goal.decreases-of_method
decreases-of_method l = l.left
