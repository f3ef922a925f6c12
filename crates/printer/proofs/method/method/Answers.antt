-- `printer::method::method` meets its contract: its pieces, one behind another.
use Rattle.printer.specs.laws.MethodLaws.{method-put}
use Rattle.printer.proofs.method.method.Goals as goal

pub returns : goal.returns
returns c = search method-put
