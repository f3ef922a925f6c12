-- `fill` meets its contract: each return is a law of `Filling`.
use Rattle.std.proofs.Common.{arith}
use Rattle.joiner.proofs.Filling.{fill-long, fill-tokens, fill-refused, lexed-few}
use Rattle.joiner.proofs.library.fill.Goals as goal

pub returns-then-library-gt-SOURCE_MOST : goal.returns-then-library-gt-SOURCE_MOST
returns-then-library-gt-SOURCE_MOST c = fill-long c.args.library.now c.args.table.now c.if-library-gt-SOURCE_MOST.true

pub grow-requires : goal.grow-requires
grow-requires c = omega (arith, lexed-few c.args.library.now c.lex.new.table c.lex.ensures.1 c.in-Ok.is)

pub returns-in-Ok : goal.returns-in-Ok
returns-in-Ok c =
    fill-tokens c.args.library.now c.lex.new.table c.lex.result c.if-library-gt-SOURCE_MOST.false c.lex.ensures.1 c.in-Ok.is
    c.grow.ensures

pub returns-in-Err : goal.returns-in-Err
returns-in-Err c =
    fill-refused c.args.library.now c.lex.new.table c.lex.result c.if-library-gt-SOURCE_MOST.false c.lex.ensures.1 _ c.in-Err.is
