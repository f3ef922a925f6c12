-- `printer::decl::parameters` meets its contract. The measure is how many may still come.
use Rattle.printer.proofs.decl.+parameters.Given as goal

abbrev pub decreases-parameters : goal.decreases-parameters
decreases-parameters l = l.p.left
