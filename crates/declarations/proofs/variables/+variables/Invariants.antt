-- The measure is what is left. Each return is a law of `VariableLaws`.
use Rattle.declarations.proofs.variables.+variables.Given as goal

abbrev pub decreases-variables : goal.decreases-variables
decreases-variables l = l.left
