-- What writes the classes from place `k` on has written all from place `i` on.
use Rattle.std.proofs.Common.{◌+◌, ◌-◌, List, ℕ}
use Rattle.menu.specs.promises.MenuPost.{StripWritten}
use Rattle.menu.proofs.order.write.Given as goal

abbrev pub invariant-loop-k : goal.invariant-loop-k
invariant-loop-k l =
    (after : List ℕ) (r : ℕ) → StripWritten l.table l.tree l.first l.next l.k (l.i + l.left - l.k) l.strip after r
    → StripWritten l.table l.initial.tree l.first l.next l.i l.left l.initial.strip after r
