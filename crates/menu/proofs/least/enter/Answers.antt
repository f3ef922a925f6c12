-- The return is a law of `LeastLaws`.
use Rattle.menu.proofs.LeastLaws.{enter-row}
use Rattle.menu.proofs.least.enter.Goals as goal

pub returns : goal.returns
returns c = search enter-row
