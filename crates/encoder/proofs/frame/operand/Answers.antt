-- Each return is a law of `FrameLaws`.
use Rattle.encoder.proofs.FrameLaws.{operand-operator, operand-object, operand-call, operand-word}
use Rattle.encoder.proofs.frame.operand.Goals as goal

pub returns-then-op-eq-OPERATE : goal.returns-then-op-eq-OPERATE
returns-then-op-eq-OPERATE c = search operand-operator

pub returns-then-op-eq-MAKE_OBJECT : goal.returns-then-op-eq-MAKE_OBJECT
returns-then-op-eq-MAKE_OBJECT c = search operand-object

pub returns-then-op-eq-CALL : goal.returns-then-op-eq-CALL
returns-then-op-eq-CALL c = search operand-call

pub returns : goal.returns
returns c = search operand-word
