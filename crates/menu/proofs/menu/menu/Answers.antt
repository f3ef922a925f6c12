-- Each return is a law of `MenuLaws`.
use Rattle.menu.proofs.MenuLaws.{menu-short, menu-answer}
use Rattle.std.proofs.Common.{arith}
use Rattle.menu.proofs.menu.menu.Goals as goal

pub returns-then-table-lt-TABLE_LEAST : goal.returns-then-table-lt-TABLE_LEAST
returns-then-table-lt-TABLE_LEAST c = search menu-short

pub returns : goal.returns
returns c =
    menu-answer c.args.source.now c.args.table.now c.args.strip.now c.if-table-lt-TABLE_LEAST.false c.answer-classes.result c.answer-classes.new.table
    c.answer-classes.ensures (omega arith) (c.fill.ensures.after (λ y e. e))
