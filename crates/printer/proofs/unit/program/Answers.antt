-- `printer::unit::program` meets its contract: its pieces, one behind another.
use Rattle.printer.specs.laws.UnitLaws.{program-put}
use Rattle.printer.proofs.unit.program.Goals as goal

pub returns : goal.returns
returns c = search program-put
