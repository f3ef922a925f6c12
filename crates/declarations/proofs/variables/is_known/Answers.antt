-- `is_known` meets its contract by its law of `VariableLaws`.
use Rattle.declarations.proofs.VariableLaws.{known_at}
use Rattle.declarations.proofs.variables.is_known.Goals as goal

pub returns : goal.returns
returns c = search known_at
