-- `printer::stmt::value` meets its contract: its pieces, one behind another.
use Rattle.printer.specs.laws.StatementLaws.{value-put}
use Rattle.printer.proofs.stmt.value.Goals as goal

pub returns : goal.returns
returns c = search value-put
