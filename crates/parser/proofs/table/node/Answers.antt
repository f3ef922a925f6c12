-- `node` meets its contract: three words are written.
use mathlib.Core.Path.{refl, ◌∙◌}
use Rattle.base.specs.promises.Table.{put, col}
use Rattle.parser.specs.promises.Layout as Layout
use Rattle.parser.proofs.table.node.Goals as goal

pub returns : goal.returns
unfolding Layout.node put col
returns c = c.put-2.ensures ∙ rw (c.put.ensures, c.cell.ensures, c.cell-2.ensures) refl
