-- The measure is what is left. Each return is a law of `PlaceLaws`.
use Rattle.writer.proofs.places.+place.Given as goal

abbrev pub decreases-place : goal.decreases-place
decreases-place l = l.left
