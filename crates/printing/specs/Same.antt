-- Document 02, (v), "trees (declarations, names and values too, positions not) are equal": `erase` sets every row and every position to 0,
-- and two trees are the same where they are equal then.
use Rattle.std.specs.Prelude.{ℕ, ◌≡◌, List, [], ◌∷◌}
use Rattle.std.proofs.Math.Option.{Option, none, some}
use Rattle.parser.specs.Tree.{Place, Name, ElementUse, Sort, Part, TypeUse, Variable, Method, Class, Program}
use Rattle.parser.specs.Tree.{Part.literal, Part.truth, Part.variable, Part.this, Part.new_array_lem, Part.new_object_lem, Part.negation, Part.binary}
use Rattle.parser.specs.Tree.{Part.element, Part.array_length, Part.call, Part.port_get_lem, Part.no_arguments, Part.argument}
use Rattle.parser.specs.Tree.{Part.block, Part.conditional, Part.loop, Part.print, Part.assign, Part.assign_element_lem, Part.port_put_lem}
use Rattle.parser.specs.Tree.{Part.no_statements, Part.sequence}

-- a place, a name, an element type and a type without their positions
abbrev pub no_place : Place
no_place = record { row = 0; start = 0 }

abbrev pub unplaced : List ℕ → Name
unplaced x = record { row = 0; start = 0; text = x }

abbrev pub erase_element : ElementUse → ElementUse
erase_element u = record { row = 0; start = 0; element = u.element }

abbrev pub erase_type : TypeUse → TypeUse
erase_type t = record { row = 0; start = 0; type = t.type }

-- a tree without its positions
unfoldable pub erase : {s : Sort} → Part s → Part s
erase (literal p n) = literal no_place n
erase (truth p b) = truth no_place b
erase (variable p x) = variable no_place x
erase (this p) = this no_place
erase (new_array_lem p u e) = new_array_lem no_place (erase_element u) (erase e)
erase (new_object_lem p c) = new_object_lem no_place (unplaced c.text)
erase (negation p e) = negation no_place (erase e)
erase (binary p o l r) = binary no_place o (erase l) (erase r)
erase (element p a i) = element no_place (erase a) (erase i)
erase (array_length p a) = array_length no_place (erase a)
erase (call p e m es) = call no_place (erase e) (unplaced m.text) (erase es)
erase (port_get_lem p e) = port_get_lem no_place (erase e)
erase no_arguments = no_arguments
erase (argument e es) = argument (erase e) (erase es)
erase (block p ss) = block no_place (erase ss)
erase (conditional p e s t) = conditional no_place (erase e) (erase s) (erase t)
erase (loop p e s) = loop no_place (erase e) (erase s)
erase (print p e) = print no_place (erase e)
erase (assign p x e) = assign no_place x (erase e)
erase (assign_element_lem p x i e) = assign_element_lem no_place x (erase i) (erase e)
erase (port_put_lem p n e) = port_put_lem no_place (erase n) (erase e)
erase no_statements = no_statements
erase (sequence s ss) = sequence (erase s) (erase ss)

-- declarations without their positions
abbrev pub erase_variable : Variable → Variable
erase_variable v = record { type = erase_type v.type; name = unplaced v.name.text }

-- lists of declarations, and a parent, without their positions
unfoldable pub erase_variables : List Variable → List Variable
erase_variables [] = []
erase_variables (v ∷ vs) = erase_variable v ∷ erase_variables vs

abbrev pub erase_method : Method → Method
erase_method m = record {
  result = erase_type m.result;
  name = unplaced m.name.text;
  parameters = erase_variables m.parameters;
  locals = erase_variables m.locals;
  body = erase m.body;
  value = erase m.value;
}

unfoldable pub erase_methods : List Method → List Method
erase_methods [] = []
erase_methods (m ∷ ms) = erase_method m ∷ erase_methods ms

abbrev pub erase_parent : Option Name → Option Name
erase_parent none = none
erase_parent (some n) = some (unplaced n.text)

abbrev pub erase_class : Class → Class
erase_class c = record {
  name = unplaced c.name.text;
  parent = erase_parent c.parent;
  fields = erase_variables c.fields;
  methods = erase_methods c.methods;
}

unfoldable pub erase_classes : List Class → List Class
erase_classes [] = []
erase_classes (c ∷ cs) = erase_class c ∷ erase_classes cs

-- a program without its positions; main's parameter is a name of it
unfoldable pub erase_program : Program → Program
erase_program p = record {
  main = unplaced p.main.text;
  parameter = unplaced p.parameter.text;
  statement = erase p.statement;
  classes = erase_classes p.classes;
}

-- equal but for positions
abbrev pub SameProgram : Program → Program → Type 0
SameProgram p q = erase_program p ≡ erase_program q
