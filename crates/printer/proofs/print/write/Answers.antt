-- `printer::print::write` meets its contract: its pieces, one behind another.
use Rattle.printer.specs.laws.PrintLaws.{write-short, write-long}
use Rattle.printer.proofs.print.write.Goals as goal

pub returns-then-strip-size : goal.returns-then-strip-size
returns-then-strip-size c = search write-short

pub returns : goal.returns
returns c = search write-long
