-- `lexer::limits::starts_with_zero` meets its contract: fewer than two bytes have no leading zero, and of others the first byte decides.
use Prim.Native.Nat.{ℕ, ◌≤◌, ◌<◌}
use native.Mathlib.Omega.{arith}
use borrow.Author.Tests.{lt-ltb, le-ltb}
use Rattle.lexer.proofs.limits.starts_with_zero.Goals as goal

few : {n : ℕ} → n < 2 → n ≤ 1
few h = omega arith

pub returns-then-text-lt2 : goal.returns-then-text-lt2
returns-then-text-lt2 c = simp (le-ltb 1 _ (few c.if-text-lt2.true))

pub returns : goal.returns
returns c = simp (lt-ltb 1 _ c.if-text-lt2.false)
