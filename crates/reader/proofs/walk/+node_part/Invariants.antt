-- The proof of the cycle of calls on parts and nodes. The measure is 2 for each level of depth left, and 1 more for a part.
-- The loop of `part` keeps what `SoFar` says, and its measure is the number of rows left. Each return and each turn is by a law of `Walks`.
use Prim.Native.Nat.{◌+◌, ◌*◌, ◌-◌}
use Rattle.base.specs.promises.Table.{rows}
use Rattle.reader.specs.promises.WalkPost.{Walks}
use Rattle.reader.proofs.Lists.{SoFar}
use Rattle.reader.proofs.walk.+node_part.Given as goal

abbrev pub decreases-part : goal.decreases-part
decreases-part l = 2 * (66 - l.d) + 1

abbrev pub decreases-node : goal.decreases-node
decreases-node l = 2 * (66 - l.d)

abbrev pub invariant-part-loop-at : goal.invariant-part-loop-at
invariant-part-loop-at l = SoFar (λ i w. Walks l.table l.n l.chain i l.d w) l.row l.at l.all

abbrev pub decreases-part-loop-at : goal.decreases-part-loop-at
decreases-part-loop-at l = rows - l.at
