-- `printer::decl::variables` meets its contract. The measure is how many may still come.
use Rattle.printer.proofs.decl.+variables.Given as goal

abbrev pub decreases-variables : goal.decreases-variables
decreases-variables l = l.p.left
