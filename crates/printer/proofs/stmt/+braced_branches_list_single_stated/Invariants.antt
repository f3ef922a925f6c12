-- The cycle of calls on statements. The measure is 8 for each node that may still come, and the rank of the function.
use Prim.Native.Nat.{◌+◌, ◌*◌}
use Rattle.printer.proofs.stmt.+braced_branches_list_single_stated.Given as goal

abbrev pub decreases-stated : goal.decreases-stated
decreases-stated l = 8 * l.p.left + 7

abbrev pub decreases-single : goal.decreases-single
decreases-single l = 8 * l.p.left + 0

abbrev pub decreases-list : goal.decreases-list
decreases-list l = 8 * l.p.left + 1

abbrev pub decreases-branches : goal.decreases-branches
decreases-branches l = 8 * l.p.left + 1

abbrev pub decreases-braced : goal.decreases-braced
decreases-braced l = 8 * l.p.left + 2
