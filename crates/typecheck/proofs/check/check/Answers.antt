-- Each return is a law of `VerdictLaws`.
use Rattle.typecheck.proofs.VerdictLaws.{check-short, check_done}
use Rattle.typecheck.proofs.check.check.Goals as goal

pub returns-then-table-lt-TABLE_LEAST : goal.returns-then-table-lt-TABLE_LEAST
returns-then-table-lt-TABLE_LEAST c = check-short c.args.source.now c.args.table.now c.if-table-lt-TABLE_LEAST.true

pub returns : goal.returns
returns c = search (check_done, c.fill.ensures.after (λ y e. e))
