-- Where a list of declarations is judged member by member: the members before a row and those from it on, and the names declared earlier.
use Rattle.std.specs.Prelude.{ℕ, ◌≤◌, ◌≡◌, List, [], ◌∷◌, ◌++◌, length}
use Rattle.lexer.specs.Tokens.{Token}
use Rattle.parser.specs.Tree.{Variable, Method}
use Rattle.parser.specs.promises.Layout.{row_variables, row_methods}
use Rattle.lookup.specs.promises.HeldClasses.{VariablesHeld, MethodHeld, MethodsHeld}
use Rattle.declarations.specs.promises.Marking.{Marked}

-- the names xs, declared one after the other, after the earlier ones: the latest stands in front
abbrev pub onto : (earlier xs : List (List ℕ)) → List (List ℕ)
onto earlier [] = earlier
onto earlier (x ∷ xs) = onto (x ∷ earlier) xs

-- a list of `count` variables begins at `first`
pub record VariablesListed (tab : List ℕ) (ts : List Token) (vs : List Variable) (first count : ℕ) : Type 0 where
  pub stand : VariablesHeld tab ts vs
  pub begins : row_variables vs ≡ first
  pub many : length vs ≡ count

-- a list of variables begins at `first`; of it us, `index` of them, stand before the row, and vs from there on
pub record Along (tab : List ℕ) (ts : List Token) (us vs : List Variable) (first index row : ℕ) : Type 0 where
  pub stand : VariablesHeld tab ts (us ++ vs)
  pub begins : row_variables (us ++ vs) ≡ first
  pub before : length us ≡ index
  pub here : row_variables vs ≡ row

-- the fields vs stand from a row on, and the names declared earlier have the stamp
pub record FieldsAt (tab : List ℕ) (ts : List Token) (marks : List ℕ) (stamp : ℕ) (earlier : List (List ℕ)) (vs : List Variable) (left row : ℕ) : Type 0 where
  pub here : row_variables vs ≡ row
  pub stand : VariablesHeld tab ts vs
  pub few : length vs ≤ left
  pub marked : Marked ts marks stamp earlier

-- a method stands in a row, after the earlier ones
pub record MethodAt (tab : List ℕ) (n : ℕ) (ts : List Token) (marks : List ℕ) (stamp : ℕ) (earlier : List (List ℕ)) (m : Method) (row : ℕ) : Type 0 where
  pub here : m.name.row ≡ row
  pub stand : MethodHeld tab n ts m
  pub marked : Marked ts marks stamp earlier

-- and a list of methods
pub record MethodsAt (tab : List ℕ) (n : ℕ) (ts : List Token) (marks : List ℕ) (stamp : ℕ) (earlier : List (List ℕ)) (ms : List Method) (left row : ℕ) : Type 0 where
  pub here : row_methods ms ≡ row
  pub stand : MethodsHeld tab n ts ms
  pub few : length ms ≤ left
  pub marked : Marked ts marks stamp earlier
