-- `kind` meets its contract: the column of the kinds begins the table.
use Rattle.parser.proofs.Laws.{kind-in, kind-past}
use Rattle.parser.proofs.table.kind.Goals as goal

pub returns-then-i-n : goal.returns-then-i-n
returns-then-i-n c = kind-in _ _ _ c.if-i-n.true

pub returns-else-i-n : goal.returns-else-i-n
returns-else-i-n c = kind-past _ _ _ c.if-i-n.false
