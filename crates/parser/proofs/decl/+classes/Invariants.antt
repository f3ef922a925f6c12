-- `classes` meets its contract. The measure is the number of tokens left. Each return is a law of `Methods`.
use Prim.Native.Nat.{◌-◌}
use Rattle.parser.proofs.decl.+classes.Given as goal

abbrev pub decreases-classes : goal.decreases-classes
decreases-classes l = l.n - l.i
