-- `printer::method::front` meets its contract: its pieces, one behind another.
use Rattle.printer.specs.laws.MethodLaws.{front-put}
use Rattle.printer.proofs.method.front.Goals as goal

pub returns : goal.returns
returns c = search front-put
