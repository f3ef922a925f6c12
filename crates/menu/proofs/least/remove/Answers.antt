-- The return is a law of `LeastLaws`.
use Rattle.menu.proofs.LeastLaws.{remove-row}
use Rattle.menu.proofs.least.remove.Goals as goal

pub returns : goal.returns
returns c = search remove-row
