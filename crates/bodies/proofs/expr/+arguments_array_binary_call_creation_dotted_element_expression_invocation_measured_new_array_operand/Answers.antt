-- The cycle of calls on expressions. The measure is 8 for each token of the range, and the rank of the function. Each return is a law of
-- `ExpressionLaws`.
use borrow.Author.Rules.{rules}
use Rattle.std.proofs.lemmas.Result.{err_from_is_err_and}
use Rattle.bodies.proofs.ExpressionLaws.{last-fine, last-refused}
use Rattle.bodies.proofs.ExpressionLaws.{arguments-end, arguments-next, arguments-refused, operand_low, operand-high}
use Rattle.bodies.proofs.ExpressionLaws.{of-binary, of-call, left-refused, binary-right, binary-wrong, call-object, call-plain}
use Rattle.bodies.proofs.ExpressionLaws.{creation-array, creation-object, dotted-call, dotted-length, element-first}
use Rattle.bodies.proofs.ExpressionLaws.{element-second, expression-atom, expression-before, expression-behind, expression-binary}
use Rattle.bodies.proofs.ExpressionLaws.{of-not, of-get, expression-unary, expression-dot, expression-element, expression-new}
use Rattle.bodies.proofs.ExpressionLaws.{invocation-count}
use Rattle.bodies.proofs.ExpressionLaws.{invocation-fine, invocation-refused, invocation-unknown, operand-fits, operand-refused}
use Rattle.bodies.proofs.ExpressionLaws.{operand-wrong}
use Rattle.bodies.proofs.ExpressionLaws.{array-wrong, array-right, array-unjudged, length-fine, length-refused}
use Rattle.bodies.proofs.ExpressionLaws.{new-array-known, new-array-unknown}
use Rattle.bodies.proofs.expr.+arguments_array_binary_call_creation_dotted_element_expression_invocation_measured_new_array_operand.Goals as goal

pub arguments-returns-then-row-ge-ABSENT : goal.arguments-returns-then-row-ge-ABSENT
arguments-returns-then-row-ge-ABSENT t c = search arguments-end

pub arguments-behind-requires : goal.arguments-behind-requires
arguments-behind-requires t c = search (operand_low, operand-high, c.in_ok-operand.was)

pub arguments-arguments-requires : goal.arguments-arguments-requires
arguments-arguments-requires t c = (search rules, (search rules, search rules))

pub arguments-returns : goal.arguments-returns
arguments-returns t c = search (arguments-next, c.in_ok-operand.was)

pub arguments-returns-in_err-operand : goal.arguments-returns-in_err-operand
arguments-returns-in_err-operand t c =
    let p = err_from_is_err_and c.from_residual.result c.from_residual.ensures.1 in
    rw (p.1, p.2) (search (arguments-refused, c.in_err-operand.was))

pub array-returns-then-t-lt-ARRAY : goal.array-returns-then-t-lt-ARRAY
array-returns-then-t-lt-ARRAY t c = search (array-wrong, c.in_ok-t.was)

pub array-returns : goal.array-returns
array-returns t c = search (array-right, c.in_ok-t.was)

pub array-returns-in_err-t : goal.array-returns-in_err-t
array-returns-in_err-t t c =
    let p = err_from_is_err_and c.from_residual.result c.from_residual.ensures.1 in
    rw (p.1, p.2) (search (array-unjudged, c.in_err-t.was))

pub binary-returns-then-answer-ge-NOTHING : goal.binary-returns-then-answer-ge-NOTHING
binary-returns-then-answer-ge-NOTHING t c = search (binary-wrong, c.requires.k_value, c.in_ok-t.was)

pub binary-returns : goal.binary-returns
binary-returns t c = search (binary-right, c.requires.k_value, c.in_ok-t.was, last-fine, c.in_ok-operand.was)

pub binary-returns-in_err-t : goal.binary-returns-in_err-t
binary-returns-in_err-t t c =
    let p = err_from_is_err_and c.from_residual.result c.from_residual.ensures.1 in
    rw (p.1, p.2) (search (left-refused of-binary, c.in_err-t.was))

pub binary-returns-in_err-operand : goal.binary-returns-in_err-operand
binary-returns-in_err-operand t c =
    let p = err_from_is_err_and c.from_residual-in_err-operand.result c.from_residual-in_err-operand.ensures.1 in
    rw (p.1, p.2) (search (binary-right, c.requires.k_value, c.in_ok-t.was, last-refused, c.in_err-operand.was))

pub call-returns-then-t-ge-INT : goal.call-returns-then-t-ge-INT
call-returns-then-t-ge-INT t c = search (call-plain, c.in_ok-t.was)

pub call-invocation-requires : goal.call-invocation-requires
call-invocation-requires t c = (search rules, (search rules, search rules, search rules))

pub call-returns : goal.call-returns
call-returns t c = search (call-object, c.in_ok-t.was)

pub call-returns-in_err-t : goal.call-returns-in_err-t
call-returns-in_err-t t c =
    let p = err_from_is_err_and c.from_residual.result c.from_residual.ensures.1 in
    rw (p.1, p.2) (search (left-refused of-call, c.in_err-t.was))

pub creation-returns-then-kind-eq-OPEN_BRACKET : goal.creation-returns-then-kind-eq-OPEN_BRACKET
creation-returns-then-kind-eq-OPEN_BRACKET t c = search creation-array

pub creation-returns : goal.creation-returns
creation-returns t c = search creation-object

pub dotted-returns-then-kind-eq-LENGTH : goal.dotted-returns-then-kind-eq-LENGTH
dotted-returns-then-kind-eq-LENGTH t c = search dotted-length

pub dotted-returns : goal.dotted-returns
dotted-returns t c = search dotted-call

pub element-returns : goal.element-returns
element-returns t c = search (element-second, c.in_ok-t.was, last-fine, c.in_ok-operand.was)

pub element-returns-in_err-t : goal.element-returns-in_err-t
element-returns-in_err-t t c =
    let p = err_from_is_err_and c.from_residual.result c.from_residual.ensures.1 in
    rw (p.1, p.2) (search (element-first, c.in_err-t.was))

pub element-returns-in_err-operand : goal.element-returns-in_err-operand
element-returns-in_err-operand t c =
    let p = err_from_is_err_and c.from_residual-in_err-operand.result c.from_residual-in_err-operand.ensures.1 in
    rw (p.1, p.2) (search (element-second, c.in_ok-t.was, last-refused, c.in_err-operand.was))

pub expression-returns-then-row-r : goal.expression-returns-then-row-r
expression-returns-then-row-r t c = search expression-before

pub expression-returns-then-r-row : goal.expression-returns-then-r-row
expression-returns-then-r-row t c = search expression-behind

pub expression-returns-then-is_atom : goal.expression-returns-then-is_atom
expression-returns-then-is_atom t c = search expression-atom

pub expression-returns-then-k-eq-NEW : goal.expression-returns-then-k-eq-NEW
expression-returns-then-k-eq-NEW t c = search expression-new

pub expression-returns-then-k-eq-DOT : goal.expression-returns-then-k-eq-DOT
expression-returns-then-k-eq-DOT t c = search expression-dot

pub expression-operand-requires : goal.expression-operand-requires
expression-operand-requires t c = (search rules, (search rules, search rules))

pub expression-returns-then-k-eq-NOT : goal.expression-returns-then-k-eq-NOT
expression-returns-then-k-eq-NOT t c = search (expression-unary of-not, last-fine, c.in_ok-operand.was)

pub expression-returns-in_err-operand : goal.expression-returns-in_err-operand
expression-returns-in_err-operand t c =
    let p = err_from_is_err_and c.from_residual.result c.from_residual.ensures.1 in
    rw (p.1, p.2) (search (expression-unary of-not, last-refused, c.in_err-operand.was))

pub expression-operand-requires-then-k-eq-PORT : goal.expression-operand-requires-then-k-eq-PORT
expression-operand-requires-then-k-eq-PORT t c = (search rules, (search rules, search rules))

pub expression-returns-then-k-eq-PORT : goal.expression-returns-then-k-eq-PORT
expression-returns-then-k-eq-PORT t c = search (expression-unary of-get, last-fine, c.in_ok-operand-2.was)

pub expression-returns-in_err-operand-2 : goal.expression-returns-in_err-operand-2
expression-returns-in_err-operand-2 t c =
    let p = err_from_is_err_and c.from_residual-in_err-operand-2.result c.from_residual-in_err-operand-2.ensures.1 in
    rw (p.1, p.2) (search (expression-unary of-get, last-refused, c.in_err-operand-2.was))

pub expression-returns-then-k-eq-OPEN_BRACKET : goal.expression-returns-then-k-eq-OPEN_BRACKET
expression-returns-then-k-eq-OPEN_BRACKET t c = search expression-element

pub expression-returns : goal.expression-returns
expression-returns t c = search expression-binary

pub invocation-returns-then-m-ge-ABSENT : goal.invocation-returns-then-m-ge-ABSENT
invocation-returns-then-m-ge-ABSENT t c = search invocation-unknown

pub invocation-returns-then-same_count : goal.invocation-returns-then-same_count
invocation-returns-then-same_count t c = search (invocation-fine, c.in_ok-arguments.was)

pub invocation-returns-in_err-arguments : goal.invocation-returns-in_err-arguments
invocation-returns-in_err-arguments t c =
    let p = err_from_is_err_and c.from_residual.result c.from_residual.ensures.1 in
    rw (p.1, p.2) (search (invocation-refused, c.in_err-arguments.was))

pub invocation-returns : goal.invocation-returns
invocation-returns t c = search invocation-count

pub measured-returns : goal.measured-returns
measured-returns t c = search (length-fine, c.in_ok-array.was)

pub measured-returns-in_err-array : goal.measured-returns-in_err-array
measured-returns-in_err-array t c =
    let p = err_from_is_err_and c.from_residual.result c.from_residual.ensures.1 in
    rw (p.1, p.2) (search (length-refused, c.in_err-array.was))

pub new_array-returns-then-known : goal.new_array-returns-then-known
new_array-returns-then-known t c = search (new-array-known, last-fine, c.in_ok-operand.was)

pub new_array-returns-in_err-operand : goal.new_array-returns-in_err-operand
new_array-returns-in_err-operand t c =
    let p = err_from_is_err_and c.from_residual.result c.from_residual.ensures.1 in
    rw (p.1, p.2) (search (new-array-known, last-refused, c.in_err-operand.was))

pub new_array-returns : goal.new_array-returns
new_array-returns t c = search new-array-unknown

pub operand-returns-then-fits : goal.operand-returns-then-fits
operand-returns-then-fits t c = search (operand-fits, c.in_ok-t.was)

pub operand-returns : goal.operand-returns
operand-returns t c = search (operand-wrong, c.in_ok-t.was)

pub operand-returns-in_err-t : goal.operand-returns-in_err-t
operand-returns-in_err-t t c =
    let p = err_from_is_err_and c.from_residual.result c.from_residual.ensures.1 in
    rw (p.1, p.2) (search (operand-refused, c.in_err-t.was))
