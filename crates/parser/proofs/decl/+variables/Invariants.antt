-- `variables` meets its contract. The measure is the number of tokens left. Each return is a law of `Variables`.
use Prim.Native.Nat.{◌-◌}
use Rattle.parser.proofs.decl.+variables.Given as goal

abbrev pub decreases-variables : goal.decreases-variables
decreases-variables l = l.n - l.i
