-- `printer::unit::main_name` meets its contract: its pieces, one behind another.
use Rattle.printer.specs.laws.UnitLaws.{main-name-put}
use Rattle.printer.proofs.unit.main_name.Goals as goal

pub returns : goal.returns
returns c = search main-name-put
