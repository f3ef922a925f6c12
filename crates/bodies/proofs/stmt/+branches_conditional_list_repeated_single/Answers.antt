-- The cycle of calls on statements. The measure is 4 for each token of the range, and the rank of the function. Each return is a law of
-- `StatementLaws`.
use Rattle.std.proofs.lemmas.Result.{err_from_is_err_and}
use Rattle.bodies.proofs.StatementLaws.{branches-first, branches-second, conditional-branches, conditional-refused}
use Rattle.bodies.proofs.StatementLaws.{statement-low, statement-high, list-end, list-next, list-refused, loop-body, loop-refused}
use Rattle.bodies.proofs.StatementLaws.{statement-assignment, statement-before, statement-behind, statement-block}
use Rattle.bodies.proofs.StatementLaws.{statement-element, statement-if, statement-print, statement-put, statement-while}
use Rattle.bodies.proofs.stmt.+branches_conditional_list_repeated_single.Goals as goal

pub branches-returns : goal.branches-returns
branches-returns t c = search (branches-second, c.in_ok-single.was)

pub branches-returns-in_err-single : goal.branches-returns-in_err-single
branches-returns-in_err-single t c =
    let p = err_from_is_err_and c.from_residual.result c.from_residual.ensures.1 in
    rw (p.1, p.2) (search (branches-first, c.in_err-single.was))

pub conditional-returns : goal.conditional-returns
conditional-returns t c = search (conditional-branches, c.in_ok-operand.was)

pub conditional-returns-in_err-operand : goal.conditional-returns-in_err-operand
conditional-returns-in_err-operand t c =
    let p = err_from_is_err_and c.from_residual.result c.from_residual.ensures.1 in
    rw (p.1, p.2) (search (conditional-refused, c.in_err-operand.was))

pub list-returns-then-row-ge-ABSENT : goal.list-returns-then-row-ge-ABSENT
list-returns-then-row-ge-ABSENT t c = search list-end

pub list-behind-requires : goal.list-behind-requires
list-behind-requires t c = search (statement-low, statement-high, c.in_ok-single.was)

pub list-returns : goal.list-returns
list-returns t c = search (list-next, c.in_ok-single.was)

pub list-returns-in_err-single : goal.list-returns-in_err-single
list-returns-in_err-single t c =
    let p = err_from_is_err_and c.from_residual.result c.from_residual.ensures.1 in
    rw (p.1, p.2) (search (list-refused, c.in_err-single.was))

pub repeated-returns : goal.repeated-returns
repeated-returns t c = search (loop-body, c.in_ok-operand.was)

pub repeated-returns-in_err-operand : goal.repeated-returns-in_err-operand
repeated-returns-in_err-operand t c =
    let p = err_from_is_err_and c.from_residual.result c.from_residual.ensures.1 in
    rw (p.1, p.2) (search (loop-refused, c.in_err-operand.was))

pub single-returns-then-row-r : goal.single-returns-then-row-r
single-returns-then-row-r t c = search statement-before

pub single-returns-then-r-row : goal.single-returns-then-r-row
single-returns-then-r-row t c = search statement-behind

pub single-returns-then-k-eq-OPEN_BRACE : goal.single-returns-then-k-eq-OPEN_BRACE
single-returns-then-k-eq-OPEN_BRACE t c = search statement-block

pub single-returns-then-k-eq-IF : goal.single-returns-then-k-eq-IF
single-returns-then-k-eq-IF t c = search statement-if

pub single-returns-then-k-eq-WHILE : goal.single-returns-then-k-eq-WHILE
single-returns-then-k-eq-WHILE t c = search statement-while

pub single-returns-then-k-eq-SYSTEM : goal.single-returns-then-k-eq-SYSTEM
single-returns-then-k-eq-SYSTEM t c = search statement-print

pub single-returns-then-k-eq-PORT : goal.single-returns-then-k-eq-PORT
single-returns-then-k-eq-PORT t c = search statement-put

pub single-returns-then-kind-eq-OPEN_BRACKET : goal.single-returns-then-kind-eq-OPEN_BRACKET
single-returns-then-kind-eq-OPEN_BRACKET t c = search statement-element

pub single-returns : goal.single-returns
single-returns t c = search statement-assignment
