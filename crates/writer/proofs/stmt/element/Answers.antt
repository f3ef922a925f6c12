-- `element` meets its contract.
use Rattle.writer.proofs.StatementLaws.{element-wrote}
use Rattle.writer.proofs.stmt.element.Goals as goal

pub returns : goal.returns
returns c = search element-wrote
