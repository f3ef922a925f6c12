-- The measure is what is left. Each return is a law of `FieldLaws`.
use Rattle.lookup.proofs.fields.+own.Given as goal

abbrev pub decreases-own : goal.decreases-own
decreases-own l = l.left
