-- The methods of a class: the measure is how many may still come.
use Rattle.writer.proofs.method.+methods.Given as goal

abbrev pub decreases-methods : goal.decreases-methods
decreases-methods l = l.p.left
