-- `player::run::part` meets its contract.
use mathlib.Core.Path.{refl}
use Rattle.player.proofs.Parts.{parts}
use Rattle.player.proofs.run.part.Goals as goal

pub returns : goal.returns
returns c = parts c.started-from.ensures refl refl c.rounds-e.ensures c.ended.ensures
