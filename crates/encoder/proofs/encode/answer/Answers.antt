-- Each return is a law of `EncodeLaws`.
use Rattle.std.proofs.Common.{arith}
use Rattle.std.proofs.lemmas.Result.{err_from_is_err_and}
use Rattle.encoder.proofs.EncodeLaws.{answer-found, answer-unfit, found-walkable, found-classes}
use Rattle.encoder.proofs.encode.answer.Goals as goal

pub written-requires : goal.written-requires
written-requires c =
    (found-walkable c.find.ensures c.in_ok-sizes.was (omega arith), found-classes c.find.ensures c.in_ok-sizes.was)

pub returns : goal.returns
returns c =
    answer-found c.args.source.now c.find.result c.find.new.table c.args.strip.now c.find.ensures c.in_ok-sizes.was _
    c.written.ensures

pub returns-in_err-sizes : goal.returns-in_err-sizes
returns-in_err-sizes c =
    let p = err_from_is_err_and c.from_residual.result c.from_residual.ensures.1 in
    rw (p.1, p.2) (answer-unfit c.args.source.now c.find.result c.find.new.table c.args.strip.now c.find.ensures c.in_err-sizes.was)
