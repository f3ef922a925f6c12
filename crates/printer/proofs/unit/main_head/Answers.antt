-- `printer::unit::main_head` meets its contract: its pieces, one behind another.
use Rattle.printer.specs.laws.UnitLaws.{main-head-put}
use Rattle.printer.proofs.unit.main_head.Goals as goal

pub returns : goal.returns
returns c = search main-head-put
