-- Document 02, (ii), Menu's order said without computing it: each class exactly one time, and in each place the earliest class that may
-- stand there.
use Rattle.std.specs.Prelude.{◌≡◌, true, false}
use mathlib.Core.List.{List, ◌∷◌, ◌++◌, Permᴰ}
use Rattle.std.proofs.Math.Option.{some}
use Rattle.base.specs.All.{All}
use Rattle.parser.specs.Tree.{Name, Class}
use Rattle.typesystem.specs.ClassTable.{among}
use Rattle.typesystem.specs.TypingRules.{class_name}

-- behind the classes us: a class that is none of them, after the one that it extends
pub record MayStand (us : List Class) (k : Class) : Type 0 where
  pub new : among (class_name k) us ≡ false
  pub after : (p : Name) → k.parent ≡ some p → among p.text us ≡ true

-- the earliest such class of a table: those before it may not stand there
pub record Earliest (us G : List Class) (k : Class) : Type 0 where
  pub before : List Class
  pub behind : List Class
  pub there : G ≡ before ++ k ∷ behind
  pub may : MayStand us k
  pub others : All (λ (j : Class). MayStand us j → ⊥) before

-- an order of a table in which each class stands exactly one time, and in each place the earliest that may stand there
pub record InOrder (G o : List Class) : Type 0 where
  pub each : Permᴰ o G
  pub places : (us : List Class) (k : Class) (vs : List Class) → o ≡ us ++ k ∷ vs → Earliest us G k
