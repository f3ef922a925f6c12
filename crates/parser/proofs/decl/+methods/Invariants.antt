-- `methods` meets its contract. The measure is the number of tokens left. Each return is a law of `Methods`.
use Prim.Native.Nat.{◌-◌}
use Rattle.parser.proofs.decl.+methods.Given as goal

abbrev pub decreases-methods : goal.decreases-methods
decreases-methods l = l.n - l.i
