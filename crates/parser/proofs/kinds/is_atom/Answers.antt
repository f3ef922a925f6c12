-- `is_atom` meets its contract: the kinds are those of the definition.
use mathlib.Core.Path.{◌∙◌}
use Rattle.parser.proofs.Types.{atom-told}
use Rattle.parser.proofs.kinds.is_atom.Goals as goal

pub returns : goal.returns
returns c = c.is_name_or.ensures ∙ atom-told c.args.k
