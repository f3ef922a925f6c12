-- The work table holds a tree: what stands in the rows of its nodes and declarations (parser, `Layout`, says which column is which).
use Rattle.std.specs.Prelude.{ℕ, ◌+◌, ◌≡◌, List, [], ◌∷◌}
use Rattle.base.specs.promises.Table.{col, c_begin, c_first, c_second, c_next, c_third, c_type, c_parent, c_parameters, c_locals, c_fields, c_methods, c_body, c_value}
use Rattle.parser.specs.Tree.{Place, Sort, Part, Variable, Method, Class, Program}
use Rattle.parser.specs.Tree.{Part.literal, Part.truth, Part.variable, Part.this, Part.new_array_lem, Part.new_object_lem, Part.negation, Part.binary, Part.element, Part.array_length, Part.call, Part.port_get_lem, Part.no_arguments, Part.argument}
use Rattle.parser.specs.Tree.{Part.block, Part.conditional, Part.loop, Part.print, Part.assign, Part.assign_element_lem, Part.port_put_lem, Part.no_statements, Part.sequence}
use Rattle.parser.specs.promises.Layout.{absent, row_of, row_variables, row_methods, row_parent, row_classes}

-- a node's row: where it begins and its first two parts
pub record NodeRow (tab : List ℕ) (p : Place) (left right : ℕ) : Type 0 where
  pub start : col tab c_begin p.row ≡ p.start
  pub first : col tab c_first p.row ≡ left
  pub second : col tab c_second p.row ≡ right

unfoldable pub Holds : {s : Sort} → List ℕ → Part s → Type 0
Holds tab (literal p n) = NodeRow tab p absent absent
Holds tab (truth p b) = NodeRow tab p absent absent
Holds tab (variable p x) = NodeRow tab p absent absent
Holds tab (this p) = NodeRow tab p absent absent
Holds tab (new_array_lem p u e) = NodeRow tab p (row_of e) absent × Holds tab e
Holds tab (new_object_lem p c) = NodeRow tab p absent absent
Holds tab (negation p e) = NodeRow tab p (row_of e) absent × Holds tab e
Holds tab (binary p o l r) = NodeRow tab p (row_of l) (row_of r) × Holds tab l × Holds tab r
Holds tab (element p a i) = NodeRow tab p (row_of a) (row_of i) × Holds tab a × Holds tab i
Holds tab (array_length p a) = NodeRow tab p (row_of a) absent × Holds tab a
Holds tab (call p e m es) = NodeRow tab p (row_of e) (row_of es) × Holds tab e × Holds tab es
Holds tab (port_get_lem p e) = NodeRow tab p (row_of e) absent × Holds tab e
Holds tab no_arguments = Unit {0}
Holds tab (argument e es) = Holds tab e × (col tab c_next (row_of e) ≡ row_of es) × Holds tab es
Holds tab (block p ss) = NodeRow tab p (row_of ss) absent × Holds tab ss
Holds tab (conditional p e s t) =
    NodeRow tab p (row_of e) (row_of s) × (col tab c_third p.row ≡ row_of t) × Holds tab e × Holds tab s × Holds tab t
Holds tab (loop p e s) = NodeRow tab p (row_of e) (row_of s) × Holds tab e × Holds tab s
Holds tab (print p e) = NodeRow tab p (row_of e) absent × Holds tab e
Holds tab (assign p x e) = NodeRow tab p (row_of e) absent × Holds tab e
Holds tab (assign_element_lem p x i e) = NodeRow tab p (row_of i) (row_of e) × Holds tab i × Holds tab e
Holds tab (port_put_lem p n e) = NodeRow tab p (row_of n) (row_of e) × Holds tab n × Holds tab e
Holds tab no_statements = Unit {0}
Holds tab (sequence s ss) = Holds tab s × (col tab c_next (row_of s) ≡ row_of ss) × Holds tab ss

-- lists of declarations: each member's row, and the way to the next
unfoldable pub HoldsVariables : List ℕ → List Variable → Type 0
HoldsVariables tab [] = Unit {0}
HoldsVariables tab (v ∷ vs) =
    (col tab c_type v.name.row ≡ v.type.row) × (col tab c_next v.name.row ≡ row_variables vs) × HoldsVariables tab vs

pub record HoldsMethod (tab : List ℕ) (m : Method) : Type 0 where
  pub result : col tab c_type m.name.row ≡ m.result.row
  pub first : col tab c_parameters m.name.row ≡ row_variables m.parameters
  pub second : col tab c_locals m.name.row ≡ row_variables m.locals
  pub start : col tab c_body (m.name.row + 1) ≡ row_of m.body
  pub return : col tab c_value (m.name.row + 1) ≡ row_of m.value
  pub parameters : HoldsVariables tab m.parameters
  pub locals : HoldsVariables tab m.locals
  pub body : Holds tab m.body
  pub value : Holds tab m.value

unfoldable pub HoldsMethods : List ℕ → List Method → Type 0
HoldsMethods tab [] = Unit {0}
HoldsMethods tab (m ∷ ms) = HoldsMethod tab m × (col tab c_next m.name.row ≡ row_methods ms) × HoldsMethods tab ms

pub record HoldsClass (tab : List ℕ) (k : Class) : Type 0 where
  pub parent : col tab c_parent k.name.row ≡ row_parent k.parent
  pub first : col tab c_fields k.name.row ≡ row_variables k.fields
  pub second : col tab c_methods k.name.row ≡ row_methods k.methods
  pub fields : HoldsVariables tab k.fields
  pub methods : HoldsMethods tab k.methods

unfoldable pub HoldsClasses : List ℕ → List Class → Type 0
HoldsClasses tab [] = Unit {0}
HoldsClasses tab (k ∷ ks) = HoldsClass tab k × (col tab c_next k.name.row ≡ row_classes ks) × HoldsClasses tab ks

-- main's statement stands in `main_row`; the first class in `c_next` of row 0
pub record HoldsProgram (tab : List ℕ) (p : Program) : Type 0 where
  pub statement : Holds tab p.statement
  pub first : col tab c_next 0 ≡ row_classes p.classes
  pub classes : HoldsClasses tab p.classes
