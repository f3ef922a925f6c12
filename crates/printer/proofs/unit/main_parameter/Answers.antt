-- `printer::unit::main_parameter` meets its contract: its pieces, one behind another.
use Rattle.printer.specs.laws.UnitLaws.{main-parameter-put}
use Rattle.printer.proofs.unit.main_parameter.Goals as goal

pub returns : goal.returns
returns c = search main-parameter-put
