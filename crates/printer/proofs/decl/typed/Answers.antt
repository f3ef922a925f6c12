-- `printer::decl::typed` meets its contract: its pieces, one behind another.
use Rattle.printer.specs.laws.DeclareLaws.{type-array, type-plain}
use Rattle.printer.proofs.decl.typed.Goals as goal

pub returns-then-kind-eq-OPEN_BRACKET : goal.returns-then-kind-eq-OPEN_BRACKET
returns-then-kind-eq-OPEN_BRACKET c = search type-array

pub returns : goal.returns
returns c = search (type-plain, c.if-kind-eq-OPEN_BRACKET.false)
