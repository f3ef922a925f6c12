-- `expect_all` meets its contract: so many kinds have been found one after the other, and what is left is looked for behind them.
use Prim.Native.Nat.{◌+◌}
use mathlib.Core.Path.{◌≡◌}
use Rattle.parser.proofs.Matched.{Counted}
use Rattle.parser.proofs.parts.expect_all.Given as goal

abbrev pub invariant-loop-wanted : goal.invariant-loop-wanted
invariant-loop-wanted l = (l.next ≡ l.i + l.wanted-index) × Counted l.table l.n l.i l.kinds l.wanted-index
