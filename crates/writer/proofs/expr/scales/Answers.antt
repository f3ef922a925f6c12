-- `scales` meets its contract.
use Rattle.writer.proofs.ExpressionLaws.{scales-judged, scales-refused, scales-other}
use Rattle.writer.proofs.expr.scales.Goals as goal

pub returns-in-Ok : goal.returns-in-Ok
returns-in-Ok c = search scales-judged

pub returns-in-Err : goal.returns-in-Err
returns-in-Err c = search scales-refused

pub returns : goal.returns
returns c = search scales-other
