-- What mends the nodes from the one that is due on has mended all from `v` on. The measure is the node.
use Rattle.std.proofs.Common.{◌<◌, List, ℕ}
use Rattle.base.specs.promises.Table.{rows}
use Rattle.menu.specs.promises.Least.{Mended}
use Rattle.menu.proofs.least.mend.Given as goal

abbrev pub invariant-loop-node : goal.invariant-loop-node
invariant-loop-node l =
    (l.node < rows) × ((after : List ℕ) → Mended l.node l.tree after → Mended l.v l.initial.tree after)

abbrev pub decreases-loop-node : goal.decreases-loop-node
decreases-loop-node l = l.node
