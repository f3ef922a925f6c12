-- Both words lie in the array, and a write leaves it as long as it was.
use native.Mathlib.Omega.{arith}
use lib.ListN.{length-set}
use Rattle.lookup.proofs.fields.enter.Goals as goal

pub bounds-fields-x-2 : goal.bounds-fields-x-2
bounds-fields-x-2 c = simp length-set (omega arith)
