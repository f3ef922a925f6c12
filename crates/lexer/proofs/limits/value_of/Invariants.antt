-- `lexer::limits::value_of` meets its contract: the value so far decides with the digits left, and a value that is too large stays so.
use Rattle.lexer.proofs.Folds.{Summed}
use Rattle.lexer.proofs.limits.value_of.Given as goal

abbrev pub invariant-loop-b : goal.invariant-loop-b
invariant-loop-b l = Summed l.before l.text l.high l.b-index
