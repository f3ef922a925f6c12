-- The cycle of calls on statements. The measure is 8 for each node that may still come, and the rank of the function.
use Rattle.std.proofs.Common.{inl, inr}
use Rattle.printer.specs.laws.StatementLaws.{braced-put, branches-put, list-none, list-end, list-more, single-none, single-stated}
use Rattle.printer.specs.laws.StatementLaws.{stated-block, stated-if, stated-while, stated-print, stated-port, stated-store}
use Rattle.printer.specs.laws.StatementLaws.{stated-assign}
use Rattle.printer.proofs.stmt.+braced_branches_list_single_stated.Goals as goal

pub braced-returns : goal.braced-returns
braced-returns t c = search braced-put

pub branches-returns : goal.branches-returns
branches-returns t c = search branches-put

pub list-returns-then-p-eq0 : goal.list-returns-then-p-eq0
list-returns-then-p-eq0 t c =
    elim c.then-p-eq0.either [ inl z ↦ list-none z c.requires.1 | inr f ↦ list-end f.1 c.requires.1 ]

pub list-returns : goal.list-returns
list-returns t c = search list-more

pub single-returns-then-p-eq0 : goal.single-returns-then-p-eq0
single-returns-then-p-eq0 t c = search single-none

pub single-returns : goal.single-returns
single-returns t c = search single-stated

pub stated-returns-then-k-eq-OPEN_BRACE : goal.stated-returns-then-k-eq-OPEN_BRACE
stated-returns-then-k-eq-OPEN_BRACE t c = search stated-block

pub stated-returns-then-k-eq-IF : goal.stated-returns-then-k-eq-IF
stated-returns-then-k-eq-IF t c = search stated-if

pub stated-returns-then-k-eq-WHILE : goal.stated-returns-then-k-eq-WHILE
stated-returns-then-k-eq-WHILE t c = stated-while c.requires.2 c.if-k-eq-WHILE.true c.spell-a-then-k-eq-WHILE.ensures c.part-then-k-eq-WHILE.ensures
    c.enclosed-b-then-k-eq-WHILE.ensures c.part-then-k-eq-WHILE-2.ensures c.single.ensures

pub stated-returns-then-k-eq-SYSTEM : goal.stated-returns-then-k-eq-SYSTEM
stated-returns-then-k-eq-SYSTEM t c = search stated-print

pub stated-returns-then-k-eq-PORT : goal.stated-returns-then-k-eq-PORT
stated-returns-then-k-eq-PORT t c = search stated-port

pub stated-returns-then-kind-eq-OPEN_BRACKET : goal.stated-returns-then-kind-eq-OPEN_BRACKET
stated-returns-then-kind-eq-OPEN_BRACKET t c = search stated-store

pub stated-returns : goal.stated-returns
stated-returns t c = search stated-assign
