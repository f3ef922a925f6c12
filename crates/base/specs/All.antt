-- A predicate that holds of every element of a list, and the first element of which it does not hold.
use Rattle.std.specs.Prelude.{List, [], ◌∷◌}

pub data All {A : Type 0} (P : A → Type 0) : List A → Type 0 where
  all_nil : All P []
  all_cons : {x : A} {l : List A} → P x → All P l → All P (x ∷ l)

-- the first of a list of which something does not hold
pub data FirstNot {A : Type 0} (P : A → Type 0) : List A → A → Type 0 where
  first-here : {x : A} {l : List A} → (P x → ⊥) → FirstNot P (x ∷ l) x
  first-later : {x y : A} {l : List A} → P y → FirstNot P l x → FirstNot P (y ∷ l) x
