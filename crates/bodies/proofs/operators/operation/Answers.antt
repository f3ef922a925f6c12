-- Each return is a law of `OperatorLaws`.
use native.Mathlib.Omega.{arith}
use Rattle.bodies.proofs.OperatorLaws.{added, compared, conjoined, multiplied, no-operator, subtracted}
use Rattle.bodies.proofs.operators.operation.Goals as goal

pub returns-in-24 : goal.returns-in-24
returns-in-24 c = search conjoined

pub returns-in-25 : goal.returns-in-25
returns-in-25 c = search compared

pub returns-in-26 : goal.returns-in-26
returns-in-26 c = search added

pub returns-in-27 : goal.returns-in-27
returns-in-27 c = search subtracted

pub returns-in-28 : goal.returns-in-28
returns-in-28 c = search multiplied

pub returns-in_default : goal.returns-in_default
returns-in_default c = no-operator (λ e. omega arith) (λ e. omega arith) (λ e. omega arith) (λ e. omega arith) (λ e. omega arith)
