-- The measure is what is left. Each return is a law of `VariableLaws`.
use Rattle.declarations.proofs.variables.+fields.Given as goal

abbrev pub decreases-fields : goal.decreases-fields
decreases-fields l = l.left
