-- The measure is what is left. Each return is a law of `Writing`.
use Rattle.joiner.proofs.text.+write_kept.Given as goal

abbrev pub decreases-write_kept : goal.decreases-write_kept
decreases-write_kept l = l.left
