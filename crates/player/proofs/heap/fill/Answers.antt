-- `player::heap::fill` meets its contract.
use Rattle.player.proofs.Makings.{fills}
use Rattle.player.proofs.heap.fill.Goals as goal

pub returns : goal.returns
returns c = fills c.requires c.put_cell.ensures (c.fill.ensures.after λ y e. e)
