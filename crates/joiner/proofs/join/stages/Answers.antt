-- `stages` meets its contract: each return is a law of `Joining`.
use Rattle.std.proofs.Common.{arith}
use Rattle.std.proofs.lemmas.Result.{err_from_is_err_and}
use Rattle.joiner.proofs.Joining.{lesson-held, lesson-refused}
use Rattle.joiner.proofs.join.stages.Goals as goal

pub under-requires : goal.under-requires
under-requires c = (
  omega arith,
  lesson-held c.args.lesson.now c.args.library.now c.args.strip.now c.fill.ensures c.in_ok-fill.was,
)

pub returns-in_err-fill : goal.returns-in_err-fill
returns-in_err-fill c =
    let p = err_from_is_err_and c.from_residual.result c.from_residual.ensures.1 in
    rw (p.1, p.2)
    (lesson-refused c.args.lesson.now c.args.library.now c.args.strip.now c.fill.new.table c.fill.ensures c.in_err-fill.was)
