-- `starts_variable` meets its contract: the same test of the same tokens.
use Rattle.parser.proofs.Variables.{starts-here}
use Rattle.parser.proofs.decl.starts_variable.Goals as goal

pub returns : goal.returns
returns c = search starts-here
