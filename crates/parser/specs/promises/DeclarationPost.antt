-- What the functions that parse declarations require and ensure.
use Rattle.std.specs.Prelude.{ℕ, ◌+◌, ◌*◌, ◌-◌, ◌<◌, ◌≡◌, List, Bool, ◌||◌, ◌&&◌, eqb, Ok, Err}
use Rattle.std.proofs.Math.Option.{Option}
use Rattle.lexer.specs.Kinds.{is_name_lem, k_open_bracket, k_close_bracket}
use Rattle.lexer.specs.Tokens.{Token}
use Rattle.parser.specs.promises.Answers.{Answer}
use Rattle.parser.specs.Tree.{Name, TypeUse, Variable, Method, Class, Program}
use Rattle.parser.specs.Parse.{Parsed, begins_type_lem, type_from, variable_from, variables_from, some_parameters_lem, parameters_from}
use Rattle.parser.specs.Parse.{method_from}
use Rattle.parser.specs.Parse.{methods_from, parent_from, class_from, classes_from, program_from}
use Rattle.parser.specs.promises.Layout.{given, store_variable, store_variables, row_variables, store_method, row_methods}
use Rattle.parser.specs.promises.Layout.{store_methods, row_parent, store_class, row_classes, store_classes, store_program, list_top}
use Rattle.parser.specs.promises.Post.{kind_in_table, TokensIn, Stored, Met, Within}

-- the kinds of declarations
pub data Declaration : Type 0 where
  a_type a_variable : Declaration
  variable_list : (inClass : Bool) → Declaration
  parameter_list formals a_method method_list a_parent a_class class_list : Declaration

abbrev pub Of : Declaration → Type 0
Of a_type = TypeUse
Of a_variable = Variable
Of (variable_list b) = List Variable
Of parameter_list = List Variable
Of formals = List Variable
Of a_method = Method
Of method_list = List Method
Of a_parent = Option Name
Of a_class = Class
Of class_list = List Class

abbrev pub item_from : (d : Declaration) → (fuel : ℕ) → List Token → ℕ → Parsed (Of d)
item_from a_type f ts i = type_from ts i
item_from a_variable f ts i = variable_from ts i
item_from (variable_list b) f ts i = variables_from f b ts i
item_from parameter_list f ts i = some_parameters_lem f ts i
item_from formals f ts i = parameters_from f ts i
item_from a_method f ts i = method_from f ts i
item_from method_list f ts i = methods_from f ts i
item_from a_parent f ts i = parent_from ts i
item_from a_class f ts i = class_from f ts i
item_from class_list f ts i = classes_from f ts i

-- how each lies in the table
abbrev pub declaration_stored : (d : Declaration) → Stored (Of d)
declaration_stored a_type = record { row = λ t. t.row; write = λ t tab. tab }
declaration_stored a_variable = record { row = λ v. v.name.row; write = store_variable }
declaration_stored (variable_list b) = record { row = row_variables; write = store_variables }
declaration_stored parameter_list = record { row = row_variables; write = store_variables }
declaration_stored formals = record { row = row_variables; write = store_variables }
declaration_stored a_method = record { row = λ m. m.name.row; write = store_method }
declaration_stored method_list = record { row = row_methods; write = store_methods }
declaration_stored a_parent = record { row = row_parent; write = λ p tab. tab }
declaration_stored a_class = record { row = λ k. k.name.row; write = store_class }
declaration_stored class_list = record { row = row_classes; write = store_classes }

-- how many parsers one opens at the same token
abbrev pub rank_of : Declaration → ℕ
rank_of a_type = 0
rank_of a_variable = 0
rank_of (variable_list b) = 1
rank_of parameter_list = 1
rank_of formals = 2
rank_of a_method = 2
rank_of method_list = 3
rank_of a_parent = 0
rank_of a_class = 3
rank_of class_list = 4

-- the next token, and a bound of the row: a list may be empty
abbrev pub low_of : Declaration → ℕ → ℕ
low_of a_type i = i + 1
low_of a_variable i = i + 2
low_of (variable_list b) i = i
low_of parameter_list i = i + 1
low_of formals i = i + 1
low_of a_method i = i + 1
low_of method_list i = i
low_of a_parent i = i
low_of a_class i = i + 1
low_of class_list i = i

abbrev pub top_of : Declaration → ℕ → ℕ
top_of a_type n = n
top_of a_variable n = n
top_of (variable_list b) n = list_top
top_of parameter_list n = list_top
top_of formals n = list_top
top_of a_method n = n
top_of method_list n = list_top
top_of a_parent n = list_top
top_of a_class n = n
top_of class_list n = list_top

-- what a parser of a declaration ensures, whatever the tokens are that the table holds and whatever fuel there is, if it is enough
pub record DeclPost (d : Declaration) (n i : ℕ) (before : List ℕ) (r : Answer) (after : List ℕ) : Type 0 where
  pub kept : given after ≡ given before
  pub within : Within (low_of d i) n (top_of d n) r
  pub says : (ts : List Token) → TokensIn before n ts → (f : ℕ) → 16 * (n - i) + rank_of d < f
      → Met (declaration_stored d) before after r (item_from d f ts i)

-- what was read ends with the token of its row
abbrev pub EndsThere : Answer → Type 0
EndsThere (Ok p) = p.row + 1 ≡ p.next
EndsThere (Err m) = Unit {0}

-- a name before token i is a type
unfoldable pub follows_type_lem : List ℕ → (inClass : Bool) → (n i : ℕ) → Bool
follows_type_lem tab inClass n i =
    inClass || is_name_lem (kind_in_table tab n i) || eqb (kind_in_table tab n i) k_open_bracket && eqb (kind_in_table tab n (i + 1)) k_close_bracket

-- a variable begins here
unfoldable pub starts_variable_lem : List ℕ → (inClass : Bool) → (n i : ℕ) → Bool
starts_variable_lem tab inClass n i = begins_type_lem (kind_in_table tab n i) (follows_type_lem tab inClass n (i + 1))

-- the whole program
abbrev pub whole_program : Stored Program
whole_program = record { row = λ p. row_classes p.classes; write = store_program }

pub record ProgramPost (n : ℕ) (before : List ℕ) (r : Answer) (after : List ℕ) : Type 0 where
  pub kept : given after ≡ given before
  pub within : Within 0 n list_top r
  pub says : (ts : List Token) → TokensIn before n ts → (f : ℕ) → 16 * n + 15 < f → Met whole_program before after r (program_from f ts)
