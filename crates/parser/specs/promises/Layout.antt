-- How a tree lies in the work table. The columns before `c_begin` hold the tokens. The row of a node's own token holds, in `c_begin`, the position where the node
-- begins, in `c_first` and `c_second` the rows of its first and second part, in `c_third` that of a third; `c_next` leads to the next argument or statement of a list.
use Rattle.std.specs.Prelude.{ℕ, ◌+◌, List, [], ◌∷◌, take}
use Rattle.std.proofs.Math.Option.{Option, none, some}
use Rattle.base.specs.promises.Table.{cell, put, c_begin, c_first, c_second, c_next, c_third, c_type, c_parent, c_parameters, c_locals, c_fields, c_methods, c_body, c_value}
use Rattle.parser.specs.Tree.{Name, Sort, Part, Variable, Method, Class, Program}
use Rattle.parser.specs.Tree.{Part.literal, Part.truth, Part.variable, Part.this, Part.new_array_lem, Part.new_object_lem, Part.negation, Part.binary, Part.element, Part.array_length, Part.call, Part.port_get_lem, Part.no_arguments, Part.argument}
use Rattle.parser.specs.Tree.{Part.block, Part.conditional, Part.loop, Part.print, Part.assign, Part.assign_element_lem, Part.port_put_lem, Part.no_statements, Part.sequence}

-- no row: an empty list, or no such part
abbrev pub absent : ℕ
absent = 2048

-- one above: what the row of a list stays below, which may be empty
abbrev pub list_top : ℕ
list_top = absent + 1

-- where main's statement stands: the row of the token after main's head
abbrev pub main_row : ℕ
main_row = 14

-- the row of a node's own token; of a list that of its first member
abbrev pub row_of : {s : Sort} → Part s → ℕ
row_of (literal p n) = p.row
row_of (truth p b) = p.row
row_of (variable p x) = p.row
row_of (this p) = p.row
row_of (new_array_lem p u e) = p.row
row_of (new_object_lem p c) = p.row
row_of (negation p e) = p.row
row_of (binary p o l r) = p.row
row_of (element p a i) = p.row
row_of (array_length p a) = p.row
row_of (call p e m es) = p.row
row_of (port_get_lem p e) = p.row
row_of no_arguments = absent
row_of (argument e es) = row_of e
row_of (block p ss) = p.row
row_of (conditional p e s t) = p.row
row_of (loop p e s) = p.row
row_of (print p e) = p.row
row_of (assign p x e) = p.row
row_of (assign_element_lem p x i e) = p.row
row_of (port_put_lem p n e) = p.row
row_of no_statements = absent
row_of (sequence s ss) = row_of s

-- a node's row: where it begins and its first two parts
unfoldable pub node : List ℕ → (row start left right : ℕ) → List ℕ
node tab row start left right = put (put (put tab c_begin row start) c_first row left) c_second row right

-- how many words the columns of the tokens have, which are before all others
abbrev pub given_words : ℕ
given_words = cell c_begin 0

-- the columns of the tokens
unfoldable pub given : List ℕ → List ℕ
given tab = take given_words tab

-- the rows of a tree or of a list, written into a table: parts first
unfoldable pub store : {s : Sort} → Part s → List ℕ → List ℕ
store (literal p n) tab = node tab p.row p.start absent absent
store (truth p b) tab = node tab p.row p.start absent absent
store (variable p x) tab = node tab p.row p.start absent absent
store (this p) tab = node tab p.row p.start absent absent
store (new_array_lem p u e) tab = node (store e tab) p.row p.start (row_of e) absent
store (new_object_lem p c) tab = node tab p.row p.start absent absent
store (negation p e) tab = node (store e tab) p.row p.start (row_of e) absent
store (binary p o l r) tab = node (store r (store l tab)) p.row p.start (row_of l) (row_of r)
store (element p a i) tab = node (store i (store a tab)) p.row p.start (row_of a) (row_of i)
store (array_length p a) tab = node (store a tab) p.row p.start (row_of a) absent
store (call p e m es) tab = node (store es (store e tab)) p.row p.start (row_of e) (row_of es)
store (port_get_lem p e) tab = node (store e tab) p.row p.start (row_of e) absent
store no_arguments tab = tab
store (argument e es) tab = put (store es (store e tab)) c_next (row_of e) (row_of es)
store (block p ss) tab = node (store ss tab) p.row p.start (row_of ss) absent
store (conditional p e s t) tab = put (node (store t (store s (store e tab))) p.row p.start (row_of e) (row_of s)) c_third p.row (row_of t)
store (loop p e s) tab = node (store s (store e tab)) p.row p.start (row_of e) (row_of s)
store (print p e) tab = node (store e tab) p.row p.start (row_of e) absent
store (assign p x e) tab = node (store e tab) p.row p.start (row_of e) absent
store (assign_element_lem p x i e) tab = node (store e (store i tab)) p.row p.start (row_of i) (row_of e)
store (port_put_lem p n e) tab = node (store e (store n tab)) p.row p.start (row_of n) (row_of e)
store no_statements tab = tab
store (sequence s ss) tab = put (store ss (store s tab)) c_next (row_of s) (row_of ss)

-- DECLARATIONS. A variable, a method or a class lies in the row of its name: in `c_type` the row of its type or of its result type, in `c_parent` that of the name
-- of its parent; in `c_parameters` or `c_fields` its first parameter or field, in `c_locals` or `c_methods` its first local or method; `c_next` leads to the next. The
-- row after a method's name, that of its `(`, holds in `c_body` and `c_value` its first statement and its return expression.

unfoldable pub store_variable : Variable → List ℕ → List ℕ
store_variable v tab = put tab c_type v.name.row v.type.row

abbrev pub row_variables : List Variable → ℕ
row_variables [] = absent
row_variables (v ∷ vs) = v.name.row

unfoldable pub store_variables : List Variable → List ℕ → List ℕ
store_variables [] tab = tab
store_variables (v ∷ vs) tab = put (store_variables vs (store_variable v tab)) c_next v.name.row (row_variables vs)

-- a method's name and result type
abbrev pub head_of : Method → Variable
head_of m = record { type = m.result; name = m.name }

-- the four columns of a method, whose name stands in this row
unfoldable pub method_row_lem : List ℕ → (row parameters locals body value : ℕ) → List ℕ
method_row_lem tab row parameters locals body value = put (put (put (put tab c_parameters row parameters) c_locals row locals) c_body (row + 1) body) c_value (row + 1) value

unfoldable pub store_method : Method → List ℕ → List ℕ
store_method m tab =
    method_row_lem (store m.value (store m.body (store_variables m.locals (store_variables m.parameters (store_variable (head_of m) tab)))))
    m.name.row (row_variables m.parameters) (row_variables m.locals) (row_of m.body) (row_of m.value)

abbrev pub row_methods : List Method → ℕ
row_methods [] = absent
row_methods (m ∷ ms) = m.name.row

unfoldable pub store_methods : List Method → List ℕ → List ℕ
store_methods [] tab = tab
store_methods (m ∷ ms) tab = put (store_methods ms (store_method m tab)) c_next m.name.row (row_methods ms)

abbrev pub row_parent : Option Name → ℕ
row_parent none = absent
row_parent (some p) = p.row

unfoldable pub class_row_lem : List ℕ → (row parent fields methods : ℕ) → List ℕ
class_row_lem tab row parent fields methods = put (put (put tab c_parent row parent) c_fields row fields) c_methods row methods

unfoldable pub store_class : Class → List ℕ → List ℕ
store_class k tab =
    class_row_lem (store_methods k.methods (store_variables k.fields tab)) k.name.row (row_parent k.parent) (row_variables k.fields) (row_methods k.methods)

abbrev pub row_classes : List Class → ℕ
row_classes [] = absent
row_classes (k ∷ ks) = k.name.row

unfoldable pub store_classes : List Class → List ℕ → List ℕ
store_classes [] tab = tab
store_classes (k ∷ ks) tab = put (store_classes ks (store_class k tab)) c_next k.name.row (row_classes ks)

-- The first class stands in `c_next` of row 0, that of the first token; main's statement is in `main_row`.
unfoldable pub store_program : Program → List ℕ → List ℕ
store_program p tab = put (store_classes p.classes (store p.statement tab)) c_next 0 (row_classes p.classes)
