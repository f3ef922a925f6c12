-- `lexer::bytes::equal` meets its contract: after i turns the first i bytes are equal, so the rest decides.
use Rattle.lexer.proofs.Runs.{Alike}
use Rattle.lexer.proofs.bytes.equal.Given as goal

abbrev pub invariant-loop-i : goal.invariant-loop-i
invariant-loop-i l = Alike l.a l.b l.i
