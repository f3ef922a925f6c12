-- The measure is what is left. Each return is a law of `IndexLaws`.
use Rattle.declarations.proofs.index.+entries.Given as goal

abbrev pub decreases-entries : goal.decreases-entries
decreases-entries l = l.left
