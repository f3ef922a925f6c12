-- `loaded` meets its contract.
use Rattle.writer.proofs.ExpressionLaws.{loaded-wrote}
use Rattle.writer.proofs.expr.loaded.Goals as goal

pub returns : goal.returns
returns c = search loaded-wrote
