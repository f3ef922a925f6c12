-- Each return is a constructor of the contract.
use Rattle.bodies.specs.promises.OperatorPost.{has-line, no_line}
use Rattle.bodies.proofs.operators.line.Goals as goal

pub returns-then-left-want : goal.returns-then-left-want
returns-then-left-want c = search has-line

pub returns : goal.returns
returns c = search no_line
