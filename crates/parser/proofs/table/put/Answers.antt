-- `put` meets its contract: one word is written.
use mathlib.Core.Path.{refl}
use Rattle.base.specs.promises.Table as Table
use Rattle.parser.proofs.table.put.Goals as goal

pub returns : goal.returns
unfolding Table.put
returns c = rw c.cell.ensures refl
