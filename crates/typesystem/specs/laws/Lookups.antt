-- Look-ups by name take the first of that name, so what stands behind changes nothing that is found.
use Rattle.std.specs.Prelude.{ℕ, ◌≡◌, List, [], ◌∷◌, ◌++◌, Bool, true, false}
use Rattle.std.proofs.Math.Option.{some, none-ne-some}
use Rattle.base.specs.Choice.{if◌then◌otherwise◌}
use Rattle.base.specs.Bytes.{same}
use Rattle.parser.specs.Tree.{Class}
use Rattle.typesystem.specs.ClassTable.{class_named}

pub named-kept : (G H : List Class) (c : List ℕ) {k : Class} → class_named G c ≡ some k → class_named (G ++ H) c ≡ some k
unfolding class_named
named-kept [] H c {k} e = absurd (none-ne-some k e)
named-kept (j ∷ G) H c {k} e = here-or-behind (same j.name.text c) e (λ q. named-kept G H c q)
  where
    here-or-behind : (b : Bool) → (if b then (λ _. some j) otherwise λ _. class_named G c) ≡ some k
        → (class_named G c ≡ some k → class_named (G ++ H) c ≡ some k)
        → (if b then (λ _. some j) otherwise λ _. class_named (G ++ H) c) ≡ some k
    here-or-behind true e behind = e
    here-or-behind false e behind = behind e
