-- `printer::print::answer` meets its contract: its pieces, one behind another.
use Rattle.std.proofs.Common.{arith}
use Rattle.std.proofs.lemmas.Result.{err_from_is_err_and}
use Rattle.printer.specs.laws.PrintLaws.{few-tokens, answer-found, answer-unfit}
use Rattle.printer.proofs.print.answer.Goals as goal

pub write-requires : goal.write-requires
write-requires c =
    omega (arith, few-tokens c.args.source.now c.find.result c.find.new.table c.find.ensures c.in_ok-sizes.was)

pub returns : goal.returns
returns c =
    answer-found c.args.source.now c.find.result c.find.new.table c.find.ensures c.args.strip.now c.in_ok-sizes.was _
    c.write.ensures

pub returns-in_err-sizes : goal.returns-in_err-sizes
returns-in_err-sizes c =
    let p = err_from_is_err_and c.from_residual.result c.from_residual.ensures.1 in
    rw (p.1, p.2) (answer-unfit c.args.source.now c.find.result c.find.new.table c.find.ensures c.args.strip.now c.in_err-sizes.was)
