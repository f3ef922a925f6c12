-- `lexer::names::bucket` meets its contract: the bytes so far decide with those left.
use Rattle.lexer.proofs.Folds.{Hashed}
use Rattle.lexer.proofs.names.bucket.Given as goal

abbrev pub invariant-loop-b : goal.invariant-loop-b
invariant-loop-b l = Hashed l.text l.h l.b-index
