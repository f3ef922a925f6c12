-- `printer::stmt::finished` meets its contract: its pieces, one behind another.
use Rattle.printer.specs.laws.StatementLaws.{finished-put}
use Rattle.printer.proofs.stmt.finished.Goals as goal

pub returns : goal.returns
returns c = search finished-put
