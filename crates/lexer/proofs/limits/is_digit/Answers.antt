-- `lexer::limits::is_digit` meets its contract: the two bounds of the definition.
use borrow.Author.Tests.{le-leb, lt-leb}
use Rattle.lexer.specs.Bytes.{b_zero, is_digit_lem}
use Rattle.lexer.proofs.limits.is_digit.Goals as goal

pub returns-then-b-ge48 : goal.returns-then-b-ge48
unfolding is_digit_lem
returns-then-b-ge48 c = simp (le-leb b_zero _ c.if-b-ge48.true)

pub returns-else-b-ge48 : goal.returns-else-b-ge48
unfolding is_digit_lem
returns-else-b-ge48 c = simp (lt-leb b_zero _ c.if-b-ge48.false)
