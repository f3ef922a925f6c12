-- `printer::unit::classes` meets its contract. The measure is how many may still come.
use Rattle.printer.proofs.unit.+classes.Given as goal

abbrev pub decreases-classes : goal.decreases-classes
decreases-classes l = l.p.left
