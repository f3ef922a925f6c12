-- `printer::decl::variable` meets its contract: its pieces, one behind another.
use Rattle.printer.specs.laws.DeclareLaws.{variable-put}
use Rattle.printer.proofs.decl.variable.Goals as goal

pub returns : goal.returns
returns c = search variable-put
