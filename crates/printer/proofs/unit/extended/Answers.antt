-- `printer::unit::extended` meets its contract: its pieces, one behind another.
use Rattle.printer.specs.laws.UnitLaws.{no-parent, a-parent}
use Rattle.printer.proofs.unit.extended.Goals as goal

pub returns-then-parent-ge-ABSENT : goal.returns-then-parent-ge-ABSENT
returns-then-parent-ge-ABSENT c = search no-parent

pub returns : goal.returns
returns c = search a-parent
