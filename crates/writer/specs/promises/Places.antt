-- What looking for a variable's place ensures, whatever the tokens are that the table holds.
use Rattle.std.specs.Prelude.{ℕ, ◌+◌, ◌≤◌, ◌≡◌, List, length}
use Rattle.std.proofs.Math.Option.{Option, none, some}
use Rattle.lexer.specs.Tokens.{Token}
use Rattle.parser.specs.Tree.{Variable}
use Rattle.parser.specs.promises.Layout.{absent, row_variables}
use Rattle.typesystem.specs.ClassTable.{Slot, variable_named}
use Rattle.lookup.specs.promises.HeldClasses.{Lexemes, NameNumber, VariablesHeld}

-- a place, counted on from `at`
abbrev pub place_from : ℕ → Option Slot → ℕ
place_from at none = absent
place_from at (some s) = at + s.place

pub record PlacePost (tab : List ℕ) (left row x at : ℕ) (r : ℕ) : Type 0 where
  pub most : r ≤ absent
  pub says : (n : ℕ) (ts : List Token) → Lexemes tab n ts → (vs : List Variable) → row_variables vs ≡ row → VariablesHeld tab ts vs
      → length vs ≤ left
      → (text : List ℕ) → NameNumber ts text x → r ≡ place_from at (variable_named vs text)
