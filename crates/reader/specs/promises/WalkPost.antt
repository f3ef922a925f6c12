-- What the walk over a tree in the work table requires and ensures: the number of nodes, and the smallest position of a node that is too
-- deep.
use Rattle.std.specs.Prelude.{ℕ, ◌≤◌, ◌<◌, min, ◌≡◌, refl, List, [], ◌∷◌, ◌≢◌, Bool, true, false, ◌&&◌, length, ltb}
use Rattle.std.proofs.Common.{sym, ap, arith}
use Rattle.std.proofs.Math.Option.{Option, none, some}
use Rattle.base.specs.Choice.{if◌then◌otherwise◌}
use Rattle.base.specs.promises.Table.{col, c_next}
use Rattle.base.specs.Codes.{tokens_most, table_least}
use Rattle.lexer.specs.Tokens.{Token}
use Rattle.parser.specs.Tree.{Sort, Sort.expression, Sort.arguments, Sort.statement, Sort.statements, Part, Method, Class, Program}
use Rattle.parser.specs.Tree.{Part.literal, Part.truth, Part.variable, Part.this, Part.new_array_lem, Part.new_object_lem, Part.negation, Part.binary, Part.element, Part.array_length, Part.call, Part.port_get_lem, Part.no_arguments, Part.argument}
use Rattle.parser.specs.Tree.{Part.block, Part.conditional, Part.loop, Part.print, Part.assign, Part.assign_element_lem, Part.port_put_lem, Part.no_statements, Part.sequence}
use Rattle.parser.specs.promises.Layout.{absent, row_of, row_methods, row_classes, main_row}
use Rattle.parser.specs.Measure.{nodes, deep, methods_nodes, methods_deep, classes_nodes, classes_deep, program_nodes, program_deep}
use Rattle.parser.specs.promises.Post.{TokensIn}
use Rattle.reader.specs.promises.Holds.{Holds, HoldsMethods, HoldsClasses, HoldsProgram}
use Rattle.reader.specs.promises.Matches.{Matches, MethodsMatch, ClassesMatch, ProgramMatches}
use Rattle.reader.specs.declared.walk.Walked.{Walked}

-- THE ORDER OF A TREE

-- every node of a part begins at `low` or later, a part no earlier than its whole; the rows of the members of a list rise
unfoldable pub Ordered : (low : ℕ) → {s : Sort} → Part s → Type 0
Ordered low (literal p n) = low ≤ p.start
Ordered low (truth p b) = low ≤ p.start
Ordered low (variable p x) = low ≤ p.start
Ordered low (this p) = low ≤ p.start
Ordered low (new_array_lem p u e) = (low ≤ p.start) × Ordered p.start e
Ordered low (new_object_lem p c) = low ≤ p.start
Ordered low (negation p e) = (low ≤ p.start) × Ordered p.start e
Ordered low (binary p o l r) = (low ≤ p.start) × Ordered p.start l × Ordered p.start r
Ordered low (element p a i) = (low ≤ p.start) × Ordered p.start a × Ordered p.start i
Ordered low (array_length p a) = (low ≤ p.start) × Ordered p.start a
Ordered low (call p e m es) = (low ≤ p.start) × Ordered p.start e × Ordered p.start es
Ordered low (port_get_lem p e) = (low ≤ p.start) × Ordered p.start e
Ordered low no_arguments = Unit {0}
Ordered low (argument e es) = (row_of e < row_of es) × Ordered low e × Ordered low es
Ordered low (block p ss) = (low ≤ p.start) × Ordered p.start ss
Ordered low (conditional p e s t) = (low ≤ p.start) × Ordered p.start e × Ordered p.start s × Ordered p.start t
Ordered low (loop p e s) = (low ≤ p.start) × Ordered p.start e × Ordered p.start s
Ordered low (print p e) = (low ≤ p.start) × Ordered p.start e
Ordered low (assign p x e) = (low ≤ p.start) × Ordered p.start e
Ordered low (assign_element_lem p x i e) = (low ≤ p.start) × Ordered p.start i × Ordered p.start e
Ordered low (port_put_lem p n e) = (low ≤ p.start) × Ordered p.start n × Ordered p.start e
Ordered low no_statements = Unit {0}
Ordered low (sequence s ss) = (row_of s < row_of ss) × Ordered low s × Ordered low ss

-- the bodies and return expressions of methods; the rows of the methods rise
unfoldable pub MethodsOrdered : List Method → Type 0
MethodsOrdered [] = Unit {0}
MethodsOrdered (m ∷ ms) = (m.name.row < row_methods ms) × Ordered 0 m.body × Ordered 0 m.value × MethodsOrdered ms

unfoldable pub ClassesOrdered : List Class → Type 0
ClassesOrdered [] = Unit {0}
ClassesOrdered (k ∷ ks) = (k.name.row < row_classes ks) × MethodsOrdered k.methods × ClassesOrdered ks

-- ANSWERS

-- more than any word of the table: there is no such position
abbrev pub nowhere : ℕ
nowhere = 4294967296

-- a larger count is answered as this one
abbrev pub count_most : ℕ
count_most = 65535

-- how a position or its absence is answered
abbrev pub FoundPlace : Option ℕ → ℕ → Type 0
FoundPlace none a = a ≡ nowhere
FoundPlace (some p) a = (a ≡ p) × (p < nowhere)

-- how such an answer is read
pub found_none : (first : Option ℕ) → FoundPlace first nowhere → first ≡ none
found_none none h = refl
found_none (some p) h = absurd (omega arith)

pub found_some : (first : Option ℕ) (a : ℕ) → a ≢ nowhere → FoundPlace first a → first ≡ some a
found_some none a n h = absurd (n h)
found_some (some p) a n h = ap some (sym h.0)

-- the answer for a smallest position and a number of nodes; where a node is too deep, the count says nothing
pub record WalkAnswers (first : Option ℕ) (many : ℕ) (w : Walked) : Type 0 where
  pub place : FoundPlace first w.place
  pub count : first ≡ none → w.count ≡ min many count_most

-- PARTS

-- the table holds n tokens at most and all its columns
pub record Walkable (tab : List ℕ) (n : ℕ) : Type 0 where
  pub few : n ≤ tokens_most
  pub big : table_least ≤ length tab

-- the row after this one in a list; where there is no list, or the link does not go up, none
unfoldable pub follower : List ℕ → (chain : Bool) → (row : ℕ) → ℕ
follower tab chain row = if chain && ltb row (col tab c_next row) then (λ _. col tab c_next row) otherwise λ _. absent

-- a part is a list
abbrev pub is_list : Sort → Bool
is_list expression = false
is_list arguments = true
is_list statement = false
is_list statements = true

-- a part that the table holds; `chain` says whether it is a list, where it is not empty
pub record Sound (tab : List ℕ) (ts : List Token) (low : ℕ) (chain : Bool) {s : Sort} (t : Part s) : Type 0 where
  pub chained : row_of t < absent → is_list s ≡ chain
  pub holds : Holds tab t
  pub matches : Matches ts t
  pub ordered : Ordered low t

-- the walk of what lies in a row, at depth d: whatever the part is that the table holds there
pub record Walks (tab : List ℕ) (n : ℕ) (chain : Bool) (row d : ℕ) (w : Walked) : Type 0 where
  pub says : (ts : List Token) → TokensIn tab n ts → {s : Sort} (t : Part s) (low : ℕ) → row_of t ≡ row → Sound tab ts low chain t
      → WalkAnswers (deep d t) (nodes t) w

-- DECLARATIONS

pub record WalksMethods (tab : List ℕ) (n row : ℕ) (w : Walked) : Type 0 where
  pub says : (ts : List Token) → TokensIn tab n ts → (ms : List Method) → row_methods ms ≡ row → HoldsMethods tab ms → MethodsMatch ts ms
      → MethodsOrdered ms
      → WalkAnswers (methods_deep ms) (methods_nodes ms) w

pub record WalksClasses (tab : List ℕ) (n row : ℕ) (w : Walked) : Type 0 where
  pub says : (ts : List Token) → TokensIn tab n ts → (ks : List Class) → row_classes ks ≡ row → HoldsClasses tab ks → ClassesMatch ts ks
      → ClassesOrdered ks
      → WalkAnswers (classes_deep ks) (classes_nodes ks) w

-- main's statement stands in `main_row`, and no count is too large
pub record ProgramOrdered (p : Program) : Type 0 where
  pub row : row_of p.statement ≡ main_row
  pub statement : Ordered 0 p.statement
  pub classes : ClassesOrdered p.classes
  pub few : program_nodes p ≤ count_most

pub record WalksProgram (tab : List ℕ) (n : ℕ) (w : Walked) : Type 0 where
  pub says : (ts : List Token) → TokensIn tab n ts → (p : Program) → HoldsProgram tab p → ProgramMatches ts p → ProgramOrdered p
      → FoundPlace (program_deep p) w.place × (program_deep p ≡ none → w.count ≡ program_nodes p)
