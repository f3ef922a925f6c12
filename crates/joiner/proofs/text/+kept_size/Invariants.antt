-- The measure is what is left. Each return is a law of `Writing`.
use Rattle.joiner.proofs.text.+kept_size.Given as goal

abbrev pub decreases-kept_size : goal.decreases-kept_size
decreases-kept_size l = l.left
