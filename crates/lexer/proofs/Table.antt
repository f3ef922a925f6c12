-- The test of the table of kinds, computed over all of it, carries the rule to each entry.
use Prim.Native.Nat.{ℕ, zero, suc, ◌+◌, ◌<◌}
use native.Mathlib.Nat.{zero-add, add-zero}
use native.Mathlib.Omega.{arith}
use mathlib.Core.List.{List, [], ◌∷◌}
use mathlib.Core.Bool.{true}
use mathlib.Core.Path.{◌≡◌, sym, ap, ◌∙◌}
use lib.ListN.{get_or}
use lib.Dec.{eqb}
use borrow.Author.Tests.{eqb-true}
use Rattle.base.specs.laws.Tests.{and-true}
use Rattle.lexer.specs.ByteKinds.{byte_kind, agrees, RightTable}

from : (i : ℕ) (xs : List ℕ) (k : ℕ) → agrees i xs ≡ true → i + k < 256 → get_or xs k 0 ≡ byte_kind (i + k)
from i [] k e h = absurd (omega (arith, eqb-true i 256 e))
from i (x ∷ xs) zero e h = eqb-true x (byte_kind i) (and-true (eqb x (byte_kind i)) (agrees (i + 1) xs) e).0 ∙ ap byte_kind (sym (add-zero i))
from i (x ∷ xs) (suc k) e h =
    let q : (i + 1) + k ≡ i + suc k = omega arith in
    from (i + 1) xs k (and-true (eqb x (byte_kind i)) (agrees (i + 1) xs) e).1 (omega arith) ∙ ap byte_kind q

pub entry : {table : List ℕ} (b : ℕ) → RightTable table → b < 256 → get_or table b 0 ≡ byte_kind b
entry {table} b r h = from 0 table b r.test (omega arith) ∙ ap byte_kind (zero-add b)
