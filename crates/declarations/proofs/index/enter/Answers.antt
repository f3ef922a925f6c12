-- `enter` meets its contract: each return is a law of `IndexLaws`.
use Rattle.declarations.proofs.IndexLaws.{enter-row, enter-none}
use Rattle.declarations.proofs.index.enter.Goals as goal

pub returns-then-row-lt-ABSENT : goal.returns-then-row-lt-ABSENT
returns-then-row-lt-ABSENT c = enter-row c.args.table.now c.args.row c.args.class c.if-row-lt-ABSENT.true

pub returns-else-row-lt-ABSENT : goal.returns-else-row-lt-ABSENT
returns-else-row-lt-ABSENT c = enter-none c.args.table.now c.args.row c.args.class c.if-row-lt-ABSENT.false
