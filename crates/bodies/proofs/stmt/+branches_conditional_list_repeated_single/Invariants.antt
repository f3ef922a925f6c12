-- The cycle of calls on statements. The measure is 4 for each token of the range, and the rank of the function. Each return is a law of
-- `StatementLaws`.
use Prim.Native.Nat.{ℕ}
use Prim.Native.Nat.{◌+◌, ◌*◌, ◌-◌}
use Rattle.bodies.specs.declared.range.Range.{Range}
use Rattle.bodies.proofs.stmt.+branches_conditional_list_repeated_single.Given as goal

abbrev tokens : Range → ℕ
tokens r = 4 * (r.end - r.first)

abbrev pub decreases-single : goal.decreases-single
decreases-single l = tokens l.r

abbrev pub decreases-repeated : goal.decreases-repeated
decreases-repeated l = tokens l.parts + 1

abbrev pub decreases-list : goal.decreases-list
decreases-list l = tokens l.r + 1

abbrev pub decreases-conditional : goal.decreases-conditional
decreases-conditional l = tokens l.parts + 2

abbrev pub decreases-branches : goal.decreases-branches
decreases-branches l = tokens l.parts + 1
