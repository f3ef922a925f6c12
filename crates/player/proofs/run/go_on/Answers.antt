-- `player::run::go_on` meets its contract.
use mathlib.Core.Path.{refl}
use Rattle.player.proofs.Parts.{unfit-record, goes_on}
use Rattle.player.proofs.run.go_on.Goals as goal

pub returns-then-not-fits : goal.returns-then-not-fits
returns-then-not-fits c = unfit-record refl c.fits.ensures c.if-not-fits.true c.refused.ensures

pub returns : goal.returns
returns c = goes_on refl c.fits.ensures c.if-not-fits.false c.show.ensures c.part.ensures
