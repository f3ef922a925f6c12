-- The cycle of calls on expressions. The measure is 8 for each token of the range, and the rank of the function. Each return is a law of
-- `ExpressionLaws`.
use Prim.Native.Nat.{ℕ}
use Prim.Native.Nat.{◌+◌, ◌*◌, ◌-◌}
use Rattle.bodies.specs.declared.range.Range.{Range}
use Rattle.bodies.proofs.expr.+arguments_array_binary_call_creation_dotted_element_expression_invocation_measured_new_array_operand.Given as goal

abbrev tokens : Range → ℕ
tokens r = 8 * (r.end - r.first)

abbrev pub decreases-operand : goal.decreases-operand
decreases-operand l = tokens l.r + 3

abbrev pub decreases-new_array : goal.decreases-new_array
decreases-new_array l = tokens l.r

abbrev pub decreases-measured : goal.decreases-measured
decreases-measured l = tokens l.r

abbrev pub decreases-invocation : goal.decreases-invocation
decreases-invocation l = tokens l.r + 5

abbrev pub decreases-expression : goal.decreases-expression
decreases-expression l = tokens l.r + 2

abbrev pub decreases-element : goal.decreases-element
decreases-element l = tokens l.r

abbrev pub decreases-dotted : goal.decreases-dotted
decreases-dotted l = tokens l.r + 1

abbrev pub decreases-creation : goal.decreases-creation
decreases-creation l = tokens l.r + 1

abbrev pub decreases-call : goal.decreases-call
decreases-call l = tokens l.r

abbrev pub decreases-binary : goal.decreases-binary
decreases-binary l = tokens l.r

abbrev pub decreases-array : goal.decreases-array
decreases-array l = tokens l.r + 3

abbrev pub decreases-arguments : goal.decreases-arguments
decreases-arguments l = tokens l.r + 4
