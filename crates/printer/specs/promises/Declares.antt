-- What the functions on declarations ensure, whatever the declarations are that the table holds: they write their tokens.
use Rattle.std.specs.Prelude.{ℕ, ◌≤◌, ◌≡◌, List, [], length}
use Rattle.base.specs.promises.Table.{col, c_type}
use Rattle.parser.specs.Tree.{Ty, Variable}
use Rattle.parser.specs.promises.Layout.{row_variables}
use Rattle.reader.specs.promises.Holds.{HoldsVariables}
use Rattle.reader.specs.promises.Matches.{TypeMatches, VariableMatches, VariablesMatch}
use Rattle.printing.specs.Printed.{type_tokens, declaration_tokens, declarations_tokens, parameters_tokens, render}
use Rattle.printer.specs.declared.job.Job.{Job}
use Rattle.printer.specs.promises.Puts.{text_room, Puts}
use Rattle.printer.specs.promises.Walks.{Whatever}

module _ (s tab : List ℕ) (n : ℕ) where
  -- the type in a row
  pub record TypePut (job : Job) (c c' : List ℕ) (r : ℕ) : Type 0 where
    pub within : r ≤ text_room
    pub says : Whatever s tab n λ ts. (t : Ty) → TypeMatches ts job.row t → Puts job.at (render (type_tokens t [])) c c' r

  -- a variable whose name is in a row
  pub record VariablePut (job : Job) (c c' : List ℕ) (r : ℕ) : Type 0 where
    pub within : r ≤ text_room
    pub says : Whatever s tab n λ ts. (v : Variable) → v.name.row ≡ job.row → col tab c_type v.name.row ≡ v.type.row
        → VariableMatches ts v → Puts job.at (render (declaration_tokens v [])) c c' r

  -- variables from a row on, at most so many
  pub record VariablesPut (job : Job) (c c' : List ℕ) (r : ℕ) : Type 0 where
    pub within : r ≤ text_room
    pub says : Whatever s tab n λ ts. (vs : List Variable) → row_variables vs ≡ job.row → HoldsVariables tab vs → VariablesMatch ts vs
        → length vs ≤ job.left → Puts job.at (render (declarations_tokens vs [])) c c' r

  -- parameters from a row on, at most so many
  pub record ParametersPut (job : Job) (c c' : List ℕ) (r : ℕ) : Type 0 where
    pub within : r ≤ text_room
    pub says : Whatever s tab n λ ts. (vs : List Variable) → row_variables vs ≡ job.row → HoldsVariables tab vs → VariablesMatch ts vs
        → length vs ≤ job.left → Puts job.at (render (parameters_tokens vs [])) c c' r
