-- The tests are those of the definition, in its order; then what was performed, and zeros.
use Rattle.runner.proofs.RunLaws.{too_short, no-calls, many-calls, long-heap, not-sixteen, nothing_known, runs}
use borrow.Author.Rules.{rules}
use Rattle.runner.proofs.run.run.Goals as goal

pub returns-then-table-lt-TABLE_LEAST : goal.returns-then-table-lt-TABLE_LEAST
returns-then-table-lt-TABLE_LEAST c = search too_short

pub returns-then-calls-eq0 : goal.returns-then-calls-eq0
returns-then-calls-eq0 c = search no-calls

pub returns-then-calls-gt-CALLS_MOST : goal.returns-then-calls-gt-CALLS_MOST
returns-then-calls-gt-CALLS_MOST c = search many-calls

pub returns-then-heap-gt-HEAP_MOST : goal.returns-then-heap-gt-HEAP_MOST
returns-then-heap-gt-HEAP_MOST c = search long-heap

pub returns-then-registers-ne-REGISTERS : goal.returns-then-registers-ne-REGISTERS
returns-then-registers-ne-REGISTERS c = search not-sixteen

pub perform-requires : goal.perform-requires
perform-requires c = search (rules, nothing_known)

pub returns : goal.returns
returns c =
    runs _ _ _ _ _ _ _ _ c.if-table-lt-TABLE_LEAST.false c.if-calls-eq0.false c.if-calls-gt-CALLS_MOST.false c.if-heap-gt-HEAP_MOST.false _ _ _ c.if-registers-ne-REGISTERS.false
    c.perform.ensures
