-- What the functions on classes and on the program ensure, whatever the classes are that the table holds: they write their tokens.
use Rattle.std.specs.Prelude.{ℕ, ◌≤◌, ◌≡◌, List, [], ◌∷◌, ◌++◌, length}
use Rattle.lexer.specs.Kinds.{k_class, k_main, k_public, k_static, k_string, k_void, k_open, k_close, k_open_bracket, k_close_bracket}
use Rattle.lexer.specs.Kinds.{k_open_brace, k_close_brace}
use Rattle.parser.specs.Tree.{Class, Program}
use Rattle.parser.specs.Grammar.{DerivesProgram}
use Rattle.parser.specs.promises.Layout.{row_classes}
use Rattle.lookup.specs.promises.HeldClasses.{ClassHeld, ClassesHeld}
use Rattle.declarations.specs.promises.Indexing.{Ready}
use Rattle.printing.specs.Printed.{Lexeme, spelt, name_token, declarations_tokens, methods_tokens, parent_tokens, class_tokens, classes_tokens}
use Rattle.printing.specs.Printed.{render}
use Rattle.printer.specs.declared.job.Job.{Job}
use Rattle.printer.specs.promises.Puts.{text_room, Puts}
use Rattle.printer.specs.promises.Walks.{Whatever}

-- the pieces of a class: what follows its name, up to `{`; all of it up to there; fields, methods and `}`
unfoldable pub class_parent : Class → List Lexeme
class_parent k = parent_tokens k.parent [] ++ spelt k_open_brace ∷ []

unfoldable pub class_head : Class → List Lexeme
class_head k = (spelt k_class ∷ name_token k.name.text ∷ []) ++ class_parent k

unfoldable pub class_members : Class → List Lexeme
class_members k = declarations_tokens k.fields [] ++ (methods_tokens k.methods [] ++ spelt k_close_brace ∷ [])

unfoldable pub whole_class : Class → List Lexeme
whole_class k = class_tokens k []

-- the pieces before main's statement
unfoldable pub main_name_lem : Program → List Lexeme
main_name_lem p =
    (spelt k_class ∷ name_token p.main.text ∷ [])
    ++ spelt k_open_brace ∷ spelt k_public ∷ spelt k_static ∷ spelt k_void ∷ spelt k_main ∷ spelt k_open ∷ spelt k_string ∷ spelt k_open_bracket
    ∷ spelt k_close_bracket ∷ []

unfoldable pub main_parameter_lem : Program → List Lexeme
main_parameter_lem p = (name_token p.parameter.text ∷ []) ++ spelt k_close ∷ spelt k_open_brace ∷ []

unfoldable pub main_head_tokens : Program → List Lexeme
main_head_tokens p = main_name_lem p ++ main_parameter_lem p

module _ (s tab : List ℕ) (n : ℕ) where
  -- tokens of the class whose name is in a row
  pub record ClassPut (piece : Class → List Lexeme) (job : Job) (c c' : List ℕ) (r : ℕ) : Type 0 where
    pub within : r ≤ text_room
    pub says : Whatever s tab n λ ts. (k : Class) → k.name.row ≡ job.row → ClassHeld tab n ts k → n ≤ job.left
        → Puts job.at (render (piece k)) c c' r

  -- classes from a row on, at most so many
  pub record ClassesPut (job : Job) (c c' : List ℕ) (r : ℕ) : Type 0 where
    pub within : r ≤ text_room
    pub says : Whatever s tab n λ ts. (ks : List Class) → row_classes ks ≡ job.row → ClassesHeld tab n ts ks → length ks ≤ job.left
        → Puts job.at (render (classes_tokens ks [])) c c' r

  -- tokens of a program
  pub record ProgramPut (piece : Program → List Lexeme) (at : ℕ) (c c' : List ℕ) (r : ℕ) : Type 0 where
    pub within : r ≤ text_room
    pub says : Whatever s tab n λ ts. (p : Program) → Ready tab n ts p → DerivesProgram ts p → Puts at (render (piece p)) c c' r
