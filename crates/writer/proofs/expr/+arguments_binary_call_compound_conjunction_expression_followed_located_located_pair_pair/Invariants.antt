-- The cycle of calls on expressions. The measure is 5 for each node that may still come, and the rank of the function. Each return is a
-- law of `ExpressionLaws` or of `ListLaws`.
use Prim.Native.Nat.{◌+◌, ◌*◌}
use Rattle.writer.proofs.expr.+arguments_binary_call_compound_conjunction_expression_followed_located_located_pair_pair.Given as goal

abbrev pub decreases-pair : goal.decreases-pair
decreases-pair l = 5 * l.p.left + 2

abbrev pub decreases-located_pair : goal.decreases-located_pair
decreases-located_pair l = 5 * l.p.left + 3

abbrev pub decreases-located : goal.decreases-located
decreases-located l = 5 * l.p.left + 2

abbrev pub decreases-followed : goal.decreases-followed
decreases-followed l = 5 * l.p.left + 1

abbrev pub decreases-expression : goal.decreases-expression
decreases-expression l = 5 * l.p.left + 0

abbrev pub decreases-conjunction : goal.decreases-conjunction
decreases-conjunction l = 5 * l.p.left + 1

abbrev pub decreases-compound : goal.decreases-compound
decreases-compound l = 5 * l.p.left + 4

abbrev pub decreases-call : goal.decreases-call
decreases-call l = 5 * l.p.left + 2

abbrev pub decreases-binary : goal.decreases-binary
decreases-binary l = 5 * l.p.left + 3

abbrev pub decreases-arguments : goal.decreases-arguments
decreases-arguments l = 5 * l.p.left + 1
