-- `lexer::kinds::is_name` meets its contract: the first test tells which of the two ranges the kind may be in.
use Prim.Native.Nat.{ℕ, ◌≤◌, ◌<◌}
use mathlib.Core.Path.{◌≡◌, refl}
use mathlib.Core.Bool.{Bool, true, false, ◌&&◌, ◌||◌}
use native.Mathlib.Omega.{arith}
use lib.Dec.{leb}
use borrow.Author.Tests.{le-leb, lt-leb}
use Rattle.lexer.specs.Kinds.{is_name_lem, k_name, k_println, k_get, k_put}
use Rattle.lexer.proofs.kinds.is_name.Goals as goal

module _ (k : ℕ) where
  in-first : k ≤ k_println → leb k_name k ≡ is_name_lem k
  unfolding is_name_lem
  in-first h = let l : k < k_get = omega arith in rw (le-leb k k_println h, lt-leb k_get k l) (alone (leb k_name k))
    where
      alone : (b : Bool) → b ≡ (b && true || false)
      alone true = refl
      alone false = refl

  in-second : k_println < k → k_get ≤ k → leb k k_put ≡ is_name_lem k
  unfolding is_name_lem
  in-second h l = let p : k_name ≤ k = omega arith in rw (le-leb k_name k p, lt-leb k k_println h, le-leb k_get k l)

  between : k_println < k → k < k_get → leb k_get k ≡ is_name_lem k
  unfolding is_name_lem
  between h l = let p : k_name ≤ k = omega arith in rw (le-leb k_name k p, lt-leb k k_println h, lt-leb k_get k l)

pub returns-then-k-le-PRINTLN : goal.returns-then-k-le-PRINTLN
returns-then-k-le-PRINTLN c = in-first c.args.k c.if-k-le-PRINTLN.true

pub returns-then-k-ge-GET : goal.returns-then-k-ge-GET
returns-then-k-ge-GET c = in-second c.args.k c.if-k-le-PRINTLN.false c.if-k-ge-GET.true

pub returns-else-k-ge-GET : goal.returns-else-k-ge-GET
returns-else-k-ge-GET c = between c.args.k c.if-k-le-PRINTLN.false c.if-k-ge-GET.false
