-- `printer::method::rest` meets its contract: its pieces, one behind another.
use Rattle.printer.specs.laws.MethodLaws.{rest_put}
use Rattle.printer.proofs.method.rest.Goals as goal

pub returns : goal.returns
returns c = search rest_put
