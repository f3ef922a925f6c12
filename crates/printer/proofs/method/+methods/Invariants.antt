-- `printer::method::methods` meets its contract. The measure is how many may still come.
use Rattle.printer.proofs.method.+methods.Given as goal

abbrev pub decreases-methods : goal.decreases-methods
decreases-methods l = l.p.left
