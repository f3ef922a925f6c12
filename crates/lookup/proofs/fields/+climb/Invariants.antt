-- The measure is what is left. Each return is a law of `FieldLaws`.
use Rattle.lookup.proofs.fields.+climb.Given as goal

abbrev pub decreases-climb : goal.decreases-climb
decreases-climb l = l.left
