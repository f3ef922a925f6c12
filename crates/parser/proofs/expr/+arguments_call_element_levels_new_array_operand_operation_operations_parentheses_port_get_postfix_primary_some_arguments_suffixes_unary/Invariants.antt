-- The proof of the cycle of calls on expressions. The measure is 16 for each token left, and the rank of the function.
-- What a return shows is a law of `Expressions` or `Postfix`; what a call or a sum asks is arithmetic, from `there` and `past` (a token is there) and the bounds of a callee's answer.
use Prim.Native.Nat.{◌+◌, ◌*◌, ◌-◌}
use Rattle.parser.proofs.expr.+arguments_call_element_levels_new_array_operand_operation_operations_parentheses_port_get_postfix_primary_some_arguments_suffixes_unary.Given as goal

abbrev pub decreases-unary : goal.decreases-unary
decreases-unary l = 16 * (l.n - l.i) + 3

abbrev pub decreases-suffixes : goal.decreases-suffixes
decreases-suffixes l = 16 * (l.n - l.i) + 1

abbrev pub decreases-some_arguments : goal.decreases-some_arguments
decreases-some_arguments l = 16 * (l.n - l.i) + 12

abbrev pub decreases-primary : goal.decreases-primary
decreases-primary l = 16 * (l.n - l.i) + 1

abbrev pub decreases-postfix : goal.decreases-postfix
decreases-postfix l = 16 * (l.n - l.i) + 2

abbrev pub decreases-port_get : goal.decreases-port_get
decreases-port_get l = 16 * (l.n - l.i) + 0

abbrev pub decreases-parentheses : goal.decreases-parentheses
decreases-parentheses l = 16 * (l.n - l.i) + 0

abbrev pub decreases-operations : goal.decreases-operations
decreases-operations l = 16 * (l.n - l.i) + 0

abbrev pub decreases-operation : goal.decreases-operation
decreases-operation l = 16 * (l.n - l.i) + 4

abbrev pub decreases-operand : goal.decreases-operand
decreases-operand l = 16 * (l.n - l.i) + 5

abbrev pub decreases-new_array : goal.decreases-new_array
decreases-new_array l = 16 * (l.n - l.i) + 1

abbrev pub decreases-levels : goal.decreases-levels
decreases-levels l = 16 * (l.n - l.i) + (1 + l.top)

abbrev pub decreases-element : goal.decreases-element
decreases-element l = 16 * (l.n - l.i) + 0

abbrev pub decreases-call : goal.decreases-call
decreases-call l = 16 * (l.n - l.i) + 0

abbrev pub decreases-arguments : goal.decreases-arguments
decreases-arguments l = 16 * (l.n - l.i) + 13
