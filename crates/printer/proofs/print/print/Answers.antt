-- `printer::print::print` meets its contract: its pieces, one behind another.
use Rattle.std.proofs.Common.{arith}
use Rattle.printer.specs.laws.PrintLaws.{print-short, print-answer}
use Rattle.printer.proofs.print.print.Goals as goal

pub returns-then-table-lt-TABLE_LEAST : goal.returns-then-table-lt-TABLE_LEAST
returns-then-table-lt-TABLE_LEAST c = print-short _ _ _ c.if-table-lt-TABLE_LEAST.true

pub returns : goal.returns
returns c =
    print-answer _ _ _ c.if-table-lt-TABLE_LEAST.false _ _ c.answer-written.ensures (omega arith) (c.fill.ensures.after (λ y e. e))
