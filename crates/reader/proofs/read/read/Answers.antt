-- `read` meets its contract: each return is a law of `Growing`.
use native.Mathlib.Omega.{arith}
use Rattle.reader.proofs.Growing.{read_short, read-told}
use Rattle.reader.proofs.read.read.Goals as goal

pub returns-then-table-lt-TABLE_LEAST : goal.returns-then-table-lt-TABLE_LEAST
returns-then-table-lt-TABLE_LEAST c = read_short c.args.source.now c.args.table.now c.if-table-lt-TABLE_LEAST.true

pub returns : goal.returns
returns c =
    read-told c.args.source.now c.args.table.now c.fill-counts.new.table _ c.fill-counts.result c.if-table-lt-TABLE_LEAST.false (omega arith)
    c.fill-counts.ensures (c.fill.ensures.after (λ y e. e))
