-- What frees the children from the one that is due on has freed all from `row` on.
use Rattle.std.proofs.Common.{◌-◌, List, ℕ}
use Rattle.menu.specs.promises.MenuPost.{Freed}
use Rattle.menu.proofs.order.free.Given as goal

abbrev pub invariant-loop-i : goal.invariant-loop-i
invariant-loop-i l =
    (after : List ℕ) → Freed l.next (l.most - l._i) l.child l.tree after → Freed l.next l.most l.row l.initial.tree after
