-- `player::call::open_call` meets its contract.
use Rattle.player.proofs.Calls.{opens-them}
use Rattle.player.proofs.call.open_call.Goals as goal

pub returns : goal.returns
returns c = opens-them c.requires.0 c.requires.1 c.requires.2 c.copy_within.ensures.after (c.fill.ensures.after λ y e. e)
