-- `join` meets its contract: each return is a law of `Joining`.
use Rattle.std.proofs.Common.{arith}
use Rattle.joiner.proofs.Joining.{join-short, join-answer}
use Rattle.joiner.proofs.join.join.Goals as goal

pub returns-then-table-lt-TABLE_LEAST : goal.returns-then-table-lt-TABLE_LEAST
returns-then-table-lt-TABLE_LEAST c = join-short _ _ _ _ c.if-table-lt-TABLE_LEAST.true

pub returns : goal.returns
returns c =
    join-answer c.args.lesson.now c.args.library.now c.args.table.now c.args.strip.now c.stages-joined.new.table
    c.if-table-lt-TABLE_LEAST.false c.stages-joined.ensures (omega arith) (c.fill.ensures.after (λ y e. e))
