-- The measure is how many classes may still come. Each return is a law of `NameLaws`.
use Rattle.encoder.proofs.names.+each.Given as goal

abbrev pub decreases-each : goal.decreases-each
decreases-each l = l.left
