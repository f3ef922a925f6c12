-- The cycle of calls on statements. The measure is 4 for each node that may still come, and the rank of the function. Each return is a
-- law of `StatementLaws` or of `ListLaws`.
use Prim.Native.Nat.{◌+◌, ◌*◌}
use Rattle.writer.proofs.stmt.+body_branches_list_otherwise_single_tested.Given as goal

abbrev pub decreases-tested : goal.decreases-tested
decreases-tested l = 4 * l.p.left + 3

abbrev pub decreases-single : goal.decreases-single
decreases-single l = 4 * l.p.left + 0

abbrev pub decreases-otherwise : goal.decreases-otherwise
decreases-otherwise l = 4 * l.p.left + 1

abbrev pub decreases-list : goal.decreases-list
decreases-list l = 4 * l.p.left + 1

abbrev pub decreases-branches : goal.decreases-branches
decreases-branches l = 4 * l.p.left + 2

abbrev pub decreases-body : goal.decreases-body
decreases-body l = 4 * l.p.left + 1
