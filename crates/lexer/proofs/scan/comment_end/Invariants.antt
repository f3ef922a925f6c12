-- `lexer::scan::comment_end` meets its contract: what is left to read, at the depth reached, ends where the comment ends.
use Prim.Native.Nat.{◌-◌}
use lib.ListN.{length}
use Rattle.lexer.proofs.Comments.{Commented}
use Rattle.lexer.proofs.scan.comment_end.Given as goal

abbrev pub invariant-loop-i : goal.invariant-loop-i
invariant-loop-i l = Commented l.source l.at l.depth l.i

abbrev pub decreases-loop-i : goal.decreases-loop-i
decreases-loop-i l = length l.source - l.i
