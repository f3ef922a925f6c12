-- `printer::unit::members` meets its contract: its pieces, one behind another.
use Rattle.printer.specs.laws.UnitLaws.{members-put}
use Rattle.printer.proofs.unit.members.Goals as goal

pub returns : goal.returns
returns c = search members-put
