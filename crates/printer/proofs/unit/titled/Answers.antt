-- `printer::unit::titled` meets its contract: its pieces, one behind another.
use Rattle.printer.specs.laws.UnitLaws.{titled-put}
use Rattle.printer.proofs.unit.titled.Goals as goal

pub returns : goal.returns
returns c = search titled-put
