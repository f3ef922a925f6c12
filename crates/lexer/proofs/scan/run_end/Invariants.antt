-- `lexer::scan::run_end` meets its contract: the run ends at the first byte of another class, or at the end.
use Rattle.lexer.specs.promises.Scan.{member}
use Rattle.lexer.proofs.Runs.{Running}
use Rattle.lexer.proofs.scan.run_end.Given as goal

abbrev pub invariant-loop-i : goal.invariant-loop-i
invariant-loop-i l = Running (member l.class) l.source l.at l.i
