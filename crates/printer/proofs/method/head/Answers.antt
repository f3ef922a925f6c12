-- `printer::method::head` meets its contract: its pieces, one behind another.
use Rattle.printer.specs.laws.MethodLaws.{head-put}
use Rattle.printer.proofs.method.head.Goals as goal

pub returns : goal.returns
returns c = search head-put
