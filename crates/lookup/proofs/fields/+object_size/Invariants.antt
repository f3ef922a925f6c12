-- The measure is what is left. Each return is a law of `FieldLaws`.
use Rattle.lookup.proofs.fields.+object_size.Given as goal

abbrev pub decreases-object_size : goal.decreases-object_size
decreases-object_size l = l.left
