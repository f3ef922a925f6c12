-- The nodes and declarations of a tree match their tokens: the kind of a node's own token says what it is, and names, values and
-- positions are the tokens'.
use Rattle.std.specs.Prelude.{ℕ, ◌+◌, ◌<◌, ◌≡◌, List, [], ◌∷◌, Bool, true, false, length}
use Rattle.std.proofs.Math.Option.{Option, none, some}
use Rattle.lexer.specs.Kinds.{k_literal, k_fixed_literal, k_fixed, k_false, k_true, k_this, k_new, k_port, k_int, k_boolean, k_length, k_if, k_while}
use Rattle.lexer.specs.Kinds.{k_system, k_and, k_less, k_plus, k_minus, k_times, k_not, k_assign, k_dot, k_open, k_open_bracket, k_open_brace, is_name_lem}
use Rattle.lexer.specs.Tokens.{Token, decimal, thousandths_of_lem}
use Rattle.parser.specs.Tree.{Name, Operator, Operator.and, Operator.less, Operator.plus, Operator.minus, Operator.times, Sort, Part}
use Rattle.parser.specs.Tree.{Numeral, Numeral.int_literal, Numeral.fixed_literal, Element, Element.int, Element.boolean, Element.fixed}
use Rattle.parser.specs.Tree.{Element.class, Ty, Ty.plain, Ty.array_of, Variable, Method, Class, Program}
use Rattle.parser.specs.Tree.{Part.literal, Part.truth, Part.variable, Part.this, Part.new_array_lem, Part.new_object_lem, Part.negation, Part.binary, Part.element, Part.array_length, Part.call, Part.port_get_lem, Part.no_arguments, Part.argument}
use Rattle.parser.specs.Tree.{Part.block, Part.conditional, Part.loop, Part.print, Part.assign, Part.assign_element_lem, Part.port_put_lem, Part.no_statements, Part.sequence}
use Rattle.parser.specs.Stream.{token_at, kind_at, start_at}

-- token i is there and is of this kind
pub record TokenIs (ts : List Token) (i kind : ℕ) : Type 0 where
  pub there : i < length ts
  pub is : kind_at ts i ≡ kind

-- token i is there and is a name with this text
pub record NameIs (ts : List Token) (i : ℕ) (text : List ℕ) : Type 0 where
  pub there : i < length ts
  pub named : is_name_lem (kind_at ts i) ≡ true
  pub spelt : (token_at ts i).text ≡ text

-- a name as the tree has it
pub record NameMatches (ts : List Token) (x : Name) : Type 0 where
  pub token : NameIs ts x.row x.text
  pub start : start_at ts x.row ≡ x.start

abbrev pub truth_kind : Bool → ℕ
truth_kind true = k_true
truth_kind false = k_false

abbrev pub operator_kind : Operator → ℕ
operator_kind and = k_and
operator_kind less = k_less
operator_kind plus = k_plus
operator_kind minus = k_minus
operator_kind times = k_times

-- an element type by its token
unfoldable pub ElementMatches : List Token → (row : ℕ) → Element → Type 0
ElementMatches ts i int = TokenIs ts i k_int
ElementMatches ts i boolean = TokenIs ts i k_boolean
ElementMatches ts i fixed = TokenIs ts i k_fixed
ElementMatches ts i (class c) = NameIs ts i c

-- a type by the token of its element type, and by whether a `[` follows
unfoldable pub TypeMatches : List Token → (row : ℕ) → Ty → Type 0
TypeMatches ts i (plain t) = ElementMatches ts i t × (kind_at ts (i + 1) ≡ k_open_bracket → ⊥)
TypeMatches ts i (array_of t) = ElementMatches ts i t × TokenIs ts (i + 1) k_open_bracket

-- a literal by its token
unfoldable pub NumeralMatches : List Token → (row : ℕ) → Numeral → Type 0
NumeralMatches ts i (int_literal n) = TokenIs ts i k_literal × (decimal 0 (token_at ts i).text ≡ n)
NumeralMatches ts i (fixed_literal n) = TokenIs ts i k_fixed_literal × (thousandths_of_lem (token_at ts i).text ≡ n)

unfoldable pub Matches : (ts : List Token) → {s : Sort} → Part s → Type 0
Matches ts (literal p n) = NumeralMatches ts p.row n
Matches ts (truth p b) = TokenIs ts p.row (truth_kind b)
Matches ts (variable p x) = NameIs ts p.row x
Matches ts (this p) = TokenIs ts p.row k_this
Matches ts (new_array_lem p u e) =
    TokenIs ts p.row k_new × (u.row ≡ p.row + 1) × TypeMatches ts u.row (array_of u.element) × (start_at ts u.row ≡ u.start)
    × Matches ts e
Matches ts (new_object_lem p c) = TokenIs ts p.row k_new × (c.row ≡ p.row + 1) × NameMatches ts c × TokenIs ts (p.row + 2) k_open
Matches ts (negation p e) = TokenIs ts p.row k_not × Matches ts e
Matches ts (binary p o l r) = TokenIs ts p.row (operator_kind o) × Matches ts l × Matches ts r
Matches ts (element p a i) = TokenIs ts p.row k_open_bracket × Matches ts a × Matches ts i
Matches ts (array_length p a) = TokenIs ts p.row k_dot × TokenIs ts (p.row + 1) k_length × Matches ts a
Matches ts (call p e m es) = TokenIs ts p.row k_dot × (m.row ≡ p.row + 1) × NameMatches ts m × Matches ts e × Matches ts es
Matches ts (port_get_lem p e) = TokenIs ts p.row k_port × Matches ts e
Matches ts no_arguments = Unit {0}
Matches ts (argument e es) = Matches ts e × Matches ts es
Matches ts (block p ss) = TokenIs ts p.row k_open_brace × Matches ts ss
Matches ts (conditional p e s t) = TokenIs ts p.row k_if × Matches ts e × Matches ts s × Matches ts t
Matches ts (loop p e s) = TokenIs ts p.row k_while × Matches ts e × Matches ts s
Matches ts (print p e) = TokenIs ts p.row k_system × Matches ts e
Matches ts (assign p x e) = NameIs ts p.row x × TokenIs ts (p.row + 1) k_assign × Matches ts e
Matches ts (assign_element_lem p x i e) = NameIs ts p.row x × TokenIs ts (p.row + 1) k_open_bracket × Matches ts i × Matches ts e
Matches ts (port_put_lem p n e) = TokenIs ts p.row k_port × Matches ts n × Matches ts e
Matches ts no_statements = Unit {0}
Matches ts (sequence s ss) = Matches ts s × Matches ts ss

pub record VariableMatches (ts : List Token) (v : Variable) : Type 0 where
  pub type : TypeMatches ts v.type.row v.type.type
  pub start : start_at ts v.type.row ≡ v.type.start
  pub name : NameMatches ts v.name

unfoldable pub VariablesMatch : List Token → List Variable → Type 0
VariablesMatch ts [] = Unit {0}
VariablesMatch ts (v ∷ vs) = VariableMatches ts v × VariablesMatch ts vs

pub record MethodMatches (ts : List Token) (m : Method) : Type 0 where
  pub head : VariableMatches ts (record { type = m.result; name = m.name })
  pub after : TokenIs ts (m.name.row + 1) k_open
  pub parameters : VariablesMatch ts m.parameters
  pub locals : VariablesMatch ts m.locals
  pub body : Matches ts m.body
  pub value : Matches ts m.value

unfoldable pub MethodsMatch : List Token → List Method → Type 0
MethodsMatch ts [] = Unit {0}
MethodsMatch ts (m ∷ ms) = MethodMatches ts m × MethodsMatch ts ms

unfoldable pub ParentMatches : List Token → Option Name → Type 0
ParentMatches ts none = Unit {0}
ParentMatches ts (some p) = NameMatches ts p

pub record ClassMatches (ts : List Token) (k : Class) : Type 0 where
  pub name : NameMatches ts k.name
  pub parent : ParentMatches ts k.parent
  pub fields : VariablesMatch ts k.fields
  pub methods : MethodsMatch ts k.methods

unfoldable pub ClassesMatch : List Token → List Class → Type 0
ClassesMatch ts [] = Unit {0}
ClassesMatch ts (k ∷ ks) = ClassMatches ts k × ClassesMatch ts ks

pub record ProgramMatches (ts : List Token) (p : Program) : Type 0 where
  pub main : NameMatches ts p.main
  pub statement : Matches ts p.statement
  pub classes : ClassesMatch ts p.classes
