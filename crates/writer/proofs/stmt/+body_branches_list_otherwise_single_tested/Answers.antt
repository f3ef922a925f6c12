-- The cycle of calls on statements. The measure is 4 for each node that may still come, and the rank of the function. Each return is a
-- law of `StatementLaws` or of `ListLaws`.
use Rattle.writer.proofs.ExpressionLaws.{part-writable}
use Rattle.writer.proofs.StatementLaws.{statement-none, statement-block, statement-if, statement-while, statement-print}
use Rattle.writer.proofs.StatementLaws.{statement-put}
use Rattle.writer.proofs.StatementLaws.{statement-element, statement-assignment, conditional-wrote, loop-wrote, branches-wrote}
use Rattle.writer.proofs.StatementLaws.{otherwise-wrote, body-wrote}
use Rattle.writer.proofs.ListLaws.{of-statements, list-none, list-end, list-more}
use borrow.Author.Rules.{rules}
use Rattle.writer.proofs.stmt.+body_branches_list_otherwise_single_tested.Goals as goal

pub body-single-b-requires : goal.body-single-b-requires
body-single-b-requires t c = (search rules, search (rules, part-writable))

pub body-returns : goal.body-returns
body-returns t c =
    body-wrote c.next.ensures c.part-second.ensures c.single-b.ensures c.put-r.ensures c.put.ensures

pub branches-single-b-requires : goal.branches-single-b-requires
branches-single-b-requires t c = (search rules, search (rules, part-writable))

pub branches-returns : goal.branches-returns
branches-returns t c =
    branches-wrote c.next.ensures c.part-second.ensures c.single-b.ensures c.otherwise-r.ensures c.next-2.ensures
    c.put.ensures

pub list-returns-then-p-eq0 : goal.list-returns-then-p-eq0
list-returns-then-p-eq0 t c = search (list-none of-statements)

pub list-returns-then-p-ge-ABSENT : goal.list-returns-then-p-ge-ABSENT
list-returns-then-p-ge-ABSENT t c = search (list-end of-statements)

pub list-list-requires : goal.list-list-requires
list-list-requires t c = (search rules, search rules)

pub list-returns : goal.list-returns
list-returns t c = search (list-more of-statements)

pub otherwise-single-r-requires : goal.otherwise-single-r-requires
otherwise-single-r-requires t c = (search rules, search (rules, part-writable))

pub otherwise-returns : goal.otherwise-returns
otherwise-returns t c =
    otherwise-wrote c.next.ensures c.part-third.ensures c.single-r.ensures c.put.ensures

pub single-returns-then-p-eq0 : goal.single-returns-then-p-eq0
single-returns-then-p-eq0 t c = search statement-none

pub single-list-requires : goal.single-list-requires
single-list-requires t c = (search rules, search rules)

pub single-returns-then-k-eq-OPEN_BRACE : goal.single-returns-then-k-eq-OPEN_BRACE
single-returns-then-k-eq-OPEN_BRACE t c = search statement-block

pub single-tested-requires : goal.single-tested-requires
single-tested-requires t c = (search rules, search rules)

pub single-returns-then-k-eq-IF : goal.single-returns-then-k-eq-IF
single-returns-then-k-eq-IF t c = search statement-if

pub single-tested-requires-then-k-eq-WHILE : goal.single-tested-requires-then-k-eq-WHILE
single-tested-requires-then-k-eq-WHILE t c = (search rules, search rules)

pub single-returns-then-k-eq-WHILE : goal.single-returns-then-k-eq-WHILE
single-returns-then-k-eq-WHILE t c = search statement-while

pub single-located-requires : goal.single-located-requires
single-located-requires t c = (search rules, search rules)

pub single-returns-then-k-eq-SYSTEM : goal.single-returns-then-k-eq-SYSTEM
single-returns-then-k-eq-SYSTEM t c = search statement-print

pub single-located_pair-requires : goal.single-located_pair-requires
single-located_pair-requires t c = (search rules, search rules)

pub single-returns-then-k-eq-PORT : goal.single-returns-then-k-eq-PORT
single-returns-then-k-eq-PORT t c = search statement-put

pub single-returns-then-kind-eq-OPEN_BRACKET : goal.single-returns-then-kind-eq-OPEN_BRACKET
single-returns-then-kind-eq-OPEN_BRACKET t c = search statement-element

pub single-returns : goal.single-returns
single-returns t c = search statement-assignment

pub tested-expression-a-requires : goal.tested-expression-a-requires
tested-expression-a-requires t c = search (rules, part-writable)

pub tested-returns-then-k-eq-IF : goal.tested-returns-then-k-eq-IF
tested-returns-then-k-eq-IF t c = search conditional-wrote

pub tested-returns : goal.tested-returns
tested-returns t c =
    loop-wrote c.part-first.ensures c.expression-a.ensures c.if-k-eq-IF.false c.body.ensures
