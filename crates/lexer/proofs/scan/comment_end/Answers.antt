-- `lexer::scan::comment_end` meets its contract: what is left to read, at the depth reached, ends where the comment ends.
use Rattle.lexer.proofs.Comments.{commented-start, commented-open, commented-close, commented-closed, commented-other, commented-end}
use Rattle.lexer.proofs.scan.comment_end.Goals as goal

pub loop-i-init : goal.loop-i-init
loop-i-init c = commented-start c.requires

pub loop-i-preserved-in-Open : goal.loop-i-preserved-in-Open
loop-i-preserved-in-Open c =
    commented-open c.loop-i-test.true c.loop-i.invariant c.delimiter_of.ensures c.in-Open.is

pub returns-then-depth-eq1 : goal.returns-then-depth-eq1
returns-then-depth-eq1 c =
    commented-closed c.loop-i-test.true c.loop-i.invariant c.delimiter_of.ensures c.in-Close.is c.if-depth-eq1.true

pub loop-i-preserved-in-Close : goal.loop-i-preserved-in-Close
loop-i-preserved-in-Close c =
    commented-close c.loop-i-test.true c.loop-i.invariant c.delimiter_of.ensures c.in-Close.is c.if-depth-eq1.false

pub loop-i-preserved : goal.loop-i-preserved
loop-i-preserved c =
    commented-other c.loop-i-test.true c.loop-i.invariant c.delimiter_of.ensures c.in-Other.is

pub returns : goal.returns
returns c = commented-end c.loop-i-test.false c.loop-i.invariant
