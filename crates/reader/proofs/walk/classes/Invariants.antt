-- `classes` meets its contract. Its loop keeps what `SoFar` says, by the laws of `Declarations`, and its measure is the number of rows
-- left.
use Prim.Native.Nat.{◌-◌}
use Rattle.base.specs.promises.Table.{rows}
use Rattle.reader.specs.promises.WalkPost.{WalksClasses}
use Rattle.reader.proofs.Lists.{SoFar}
use Rattle.reader.proofs.walk.classes.Given as goal

abbrev pub invariant-loop-at : goal.invariant-loop-at
invariant-loop-at l = SoFar (WalksClasses l.table l.n) l.row l.at l.all

abbrev pub decreases-loop-at : goal.decreases-loop-at
decreases-loop-at l = rows - l.at
