-- Each return is a constructor of the contract.
use Rattle.bodies.specs.promises.OperatorPost.{int-line, fixed-line}
use Rattle.bodies.proofs.operators.numeric.Goals as goal

pub returns-then-left-eq-INT : goal.returns-then-left-eq-INT
returns-then-left-eq-INT c = search int-line

pub returns : goal.returns
returns c = search fixed-line
