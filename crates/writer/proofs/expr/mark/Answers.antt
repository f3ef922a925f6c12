-- `mark` meets its contract.
use Rattle.writer.proofs.ExpressionLaws.{mark-put}
use Rattle.writer.proofs.expr.mark.Goals as goal

pub returns : goal.returns
returns c = search mark-put
