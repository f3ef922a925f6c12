-- `printer::expr::made` meets its contract: `new`, and behind it the token after it.
use Rattle.printer.specs.laws.WalkLaws.{made-put}
use Rattle.printer.proofs.expr.made.Goals as goal

pub returns : goal.returns
returns c = search made-put
