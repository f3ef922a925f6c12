-- `fill` meets its contract: each return is a law of `Growing`.
use native.Mathlib.Omega.{arith}
use Rattle.std.proofs.lemmas.Result.{err_from_is_err_and}
use Rattle.reader.proofs.Growing.{fill-long, fill-tokens, fill-refused, lexed-few}
use Rattle.reader.proofs.read.fill.Goals as goal

pub returns-then-source-gt-SOURCE_MOST : goal.returns-then-source-gt-SOURCE_MOST
returns-then-source-gt-SOURCE_MOST c = fill-long c.args.source.now c.args.table.now c.if-source-gt-SOURCE_MOST.true

pub grow-requires : goal.grow-requires
grow-requires c = omega (arith, lexed-few c.args.source.now c.lex.new.table c.lex.ensures.1 c.in_ok-n.was)

pub returns-in_err-n : goal.returns-in_err-n
returns-in_err-n c =
    let p = err_from_is_err_and c.from_residual.result c.from_residual.ensures.1 in
    rw (p.1, p.2) (fill-refused c.args.source.now c.lex.new.table c.lex.result c.if-source-gt-SOURCE_MOST.false c.lex.ensures.1 _ c.in_err-n.was)

pub returns : goal.returns
returns c =
    fill-tokens c.args.source.now c.lex.new.table c.lex.result c.if-source-gt-SOURCE_MOST.false c.lex.ensures.1 c.in_ok-n.was c.grow.ensures
