-- The cycle of calls on expressions. The measure is 8 for each node that may still come, and the rank of the function.
use Prim.Native.Nat.{◌+◌, ◌*◌}
use Rattle.printer.proofs.expr.+arguments_binary_dotted_element_enclosed_expression_form_given.Given as goal

abbrev pub decreases-given : goal.decreases-given
decreases-given l = 8 * l.p.left + 3

abbrev pub decreases-form : goal.decreases-form
decreases-form l = 8 * l.p.left + 7

abbrev pub decreases-expression : goal.decreases-expression
decreases-expression l = 8 * l.p.left + 0

abbrev pub decreases-enclosed : goal.decreases-enclosed
decreases-enclosed l = 8 * l.p.left + 1

abbrev pub decreases-element : goal.decreases-element
decreases-element l = 8 * l.p.left + 2

abbrev pub decreases-dotted : goal.decreases-dotted
decreases-dotted l = 8 * l.p.left + 4

abbrev pub decreases-binary : goal.decreases-binary
decreases-binary l = 8 * l.p.left + 1

abbrev pub decreases-arguments : goal.decreases-arguments
decreases-arguments l = 8 * l.p.left + 2
