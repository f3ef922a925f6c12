-- `printer::stmt::assigned` meets its contract: its pieces, one behind another.
use Rattle.printer.specs.laws.StatementLaws.{assigned-put}
use Rattle.printer.proofs.stmt.assigned.Goals as goal

pub returns : goal.returns
returns c = search assigned-put
