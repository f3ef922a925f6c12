-- `begins_statement` meets its contract: the kinds are those of the definition.
use mathlib.Core.Path.{◌∙◌}
use Rattle.parser.proofs.Types.{statement-told}
use Rattle.parser.proofs.kinds.begins_statement.Goals as goal

pub returns : goal.returns
returns c = c.is_name_or.ensures ∙ statement-told c.args.k
