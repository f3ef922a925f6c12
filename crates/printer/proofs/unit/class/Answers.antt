-- `printer::unit::class` meets its contract: its pieces, one behind another.
use Rattle.printer.specs.laws.UnitLaws.{class-put}
use Rattle.printer.proofs.unit.class.Goals as goal

pub returns : goal.returns
returns c = search class-put
