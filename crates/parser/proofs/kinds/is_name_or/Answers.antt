-- `is_name_or` meets its contract: the kind is one of those, or that of a name.
use mathlib.Core.Path.{sym, ◌∙◌}
use Rattle.parser.proofs.Types.{one-of, none-of}
use Rattle.parser.proofs.kinds.is_name_or.Goals as goal

pub returns-then-contains : goal.returns-then-contains
returns-then-contains c =
    c.if-contains.true ∙ one-of c.args.k c.args.kinds.now (sym c.contains.ensures.value ∙ c.if-contains.true)

pub returns-else-contains : goal.returns-else-contains
returns-else-contains c =
    c.is_name.ensures ∙ none-of c.args.k c.args.kinds.now (sym c.contains.ensures.value ∙ c.if-contains.false)
