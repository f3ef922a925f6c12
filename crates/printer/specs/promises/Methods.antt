-- What the functions on methods ensure, whatever the methods are that the table holds: they write their tokens.
use Rattle.std.specs.Prelude.{ℕ, ◌+◌, ◌≤◌, ◌≡◌, List, [], ◌∷◌, ◌++◌, length}
use Rattle.lexer.specs.Kinds.{k_public, k_return, k_semicolon, k_open, k_close, k_open_brace, k_close_brace}
use Rattle.parser.specs.Tree.{Method}
use Rattle.parser.specs.promises.Layout.{row_methods}
use Rattle.lookup.specs.promises.HeldClasses.{MethodHeld, MethodsHeld}
use Rattle.printing.specs.Printed.{Lexeme, spelt, name_token, type_tokens, parameters_tokens, declarations_tokens, bare, method_tokens}
use Rattle.printing.specs.Printed.{methods_tokens, render}
use Rattle.printer.specs.declared.job.Job.{Job}
use Rattle.printer.specs.promises.Puts.{text_room, Puts}
use Rattle.printer.specs.promises.Walks.{Whatever}

-- the pieces of a method: up to `(`; parameters and locals; statements and return expression
unfoldable pub method_head : Method → List Lexeme
method_head m = (spelt k_public ∷ []) ++ (type_tokens m.result.type [] ++ (name_token m.name.text ∷ spelt k_open ∷ []))

unfoldable pub method_front : Method → List Lexeme
method_front m = parameters_tokens m.parameters [] ++ ((spelt k_close ∷ spelt k_open_brace ∷ []) ++ declarations_tokens m.locals [])

unfoldable pub method_rest : Method → List Lexeme
method_rest m = bare m.body [] ++ ((spelt k_return ∷ []) ++ (bare m.value [] ++ spelt k_semicolon ∷ spelt k_close_brace ∷ []))

unfoldable pub whole_method : Method → List Lexeme
whole_method m = method_tokens m []

module _ (s tab : List ℕ) (n : ℕ) where
  -- tokens of the method whose name is in a row
  pub record MethodPut (piece : Method → List Lexeme) (job : Job) (c c' : List ℕ) (r : ℕ) : Type 0 where
    pub within : r ≤ text_room
    pub says : Whatever s tab n λ ts. (m : Method) → m.name.row ≡ job.row → MethodHeld tab n ts m → n ≤ job.left
        → Puts job.at (render (piece m)) c c' r

  -- the last piece of the method whose `(` is in a row
  pub record RestPut (job : Job) (c c' : List ℕ) (r : ℕ) : Type 0 where
    pub within : r ≤ text_room
    pub says : Whatever s tab n λ ts. (m : Method) → m.name.row + 1 ≡ job.row → MethodHeld tab n ts m → n ≤ job.left
        → Puts job.at (render (method_rest m)) c c' r

  -- methods from a row on, at most so many
  pub record MethodsPut (job : Job) (c c' : List ℕ) (r : ℕ) : Type 0 where
    pub within : r ≤ text_room
    pub says : Whatever s tab n λ ts. (ms : List Method) → row_methods ms ≡ job.row → MethodsHeld tab n ts ms → length ms ≤ job.left
        → Puts job.at (render (methods_tokens ms [])) c c' r
