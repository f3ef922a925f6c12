-- `parameters` meets its contract: each return is a law of `Variables`.
use Rattle.parser.proofs.Variables.{formals-none, formals-some}
use Rattle.parser.proofs.decl.parameters.Goals as goal

pub returns-then-kind-eq-CLOSE : goal.returns-then-kind-eq-CLOSE
returns-then-kind-eq-CLOSE c = search formals-none

pub returns : goal.returns
returns c = search formals-some
