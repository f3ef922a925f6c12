-- `clear` meets its contract: after i turns the first i rows are cleared.
use Rattle.declarations.proofs.IndexLaws.{Clearing}
use Rattle.declarations.proofs.index.clear.Given as goal

abbrev pub invariant-loop-i : goal.invariant-loop-i
invariant-loop-i l = Clearing l.initial.table l.n l.table l.i
