-- `wipe` meets its contract: each return is a law of `IndexLaws`.
use Rattle.declarations.proofs.IndexLaws.{wipe-row, wipe-not}
use Rattle.declarations.proofs.index.wipe.Goals as goal

pub returns-then-table-row-ne-IF : goal.returns-then-table-row-ne-IF
returns-then-table-row-ne-IF c = wipe-row c.args.table.now c.args.row c.if-table-row-ne-IF.true

pub returns-else-table-row-ne-IF : goal.returns-else-table-row-ne-IF
returns-else-table-row-ne-IF c = wipe-not c.args.table.now c.args.row c.if-table-row-ne-IF.false
