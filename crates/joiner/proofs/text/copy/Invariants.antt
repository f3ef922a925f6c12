-- `copy` meets its contract: after i turns the first i bytes were written.
use Rattle.joiner.proofs.Writing.{Copied}
use Rattle.joiner.proofs.text.copy.Given as goal

abbrev pub invariant-loop-i : goal.invariant-loop-i
invariant-loop-i l = Copied l.bytes l.from l.end l.initial.strip l.place l.strip l.i
