-- `some_parameters` meets its contract. The measure is the number of tokens left. Each return is a law of `Variables`.
use Prim.Native.Nat.{◌-◌}
use Rattle.parser.proofs.decl.+some_parameters.Given as goal

abbrev pub decreases-some_parameters : goal.decreases-some_parameters
decreases-some_parameters l = l.n - l.i
