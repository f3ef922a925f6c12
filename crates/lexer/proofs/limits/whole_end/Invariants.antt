-- `lexer::limits::whole_end` meets its contract: the digits end at the first byte that is none, or at the end.
use Rattle.lexer.specs.Bytes.{is_digit_lem}
use Rattle.lexer.proofs.Runs.{Running}
use Rattle.lexer.proofs.limits.whole_end.Given as goal

abbrev pub invariant-loop-i : goal.invariant-loop-i
invariant-loop-i l = Running is_digit_lem l.text 0 l.i
