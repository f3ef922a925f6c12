-- Each return is a law of `ClimbLaws`.
use Rattle.lookup.proofs.ClimbLaws.{fits-same, fits-chain}
use Rattle.lookup.proofs.chain.fits.Goals as goal

pub returns-then-s-t : goal.returns-then-s-t
returns-then-s-t c = search fits-same

pub returns : goal.returns
returns c = search fits-chain
