-- `above` meets its contract by its law of `ClimbLaws`.
use Rattle.lookup.proofs.ClimbLaws.{above-is}
use Rattle.lookup.proofs.chain.above.Goals as goal

pub returns : goal.returns
returns c = search above-is
