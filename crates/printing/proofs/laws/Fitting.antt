-- Trees whose names and literals can be written: what the lexer reads back; and it takes the printed tokens of such trees.
use Rattle.std.specs.Prelude.{ℕ, ◌≤◌, ◌≡◌, refl, List, [], ◌∷◌, Bool, true, false}
use Rattle.std.proofs.Math.Option.{Option, none, some}
use Rattle.base.specs.All.{All, all_nil, all_cons}
use Rattle.base.specs.Codes.{literal_most}
use Rattle.lexer.specs.Kinds.{is_name_lem, word_kind_lem, k_out, k_println, k_get, k_put, k_boolean, k_class, k_else, k_extends, k_false, k_fixed, k_if, k_int}
use Rattle.lexer.specs.Kinds.{k_length, k_main, k_new, k_port, k_public, k_return, k_static, k_string, k_system, k_this, k_true, k_void, k_while}
use Rattle.lexer.specs.Kinds.{k_and, k_less, k_plus, k_minus, k_times, k_not, k_assign, k_dot, k_comma, k_semicolon, k_open, k_close}
use Rattle.lexer.specs.Kinds.{k_open_bracket, k_close_bracket, k_open_brace, k_close_brace}
use Rattle.parser.specs.Tree.{Name, Operator, Operator.and, Operator.less, Operator.plus, Operator.minus, Operator.times}
use Rattle.parser.specs.Tree.{Sort, Part, Variable, Method, Class, Program, Numeral, Numeral.int_literal, Numeral.fixed_literal}
use Rattle.parser.specs.Tree.{Element, Element.int, Element.boolean, Element.fixed, Element.class, Ty, Ty.plain, Ty.array_of}
use Rattle.parser.specs.Tree.{Part.literal, Part.truth, Part.variable, Part.this, Part.new_array_lem, Part.new_object_lem, Part.negation, Part.binary}
use Rattle.parser.specs.Tree.{Part.element, Part.array_length, Part.call, Part.port_get_lem, Part.no_arguments, Part.argument}
use Rattle.parser.specs.Tree.{Part.block, Part.conditional, Part.loop, Part.print, Part.assign, Part.assign_element_lem, Part.port_put_lem}
use Rattle.parser.specs.Tree.{Part.no_statements, Part.sequence}
use Rattle.printing.specs.Printed.{Lexeme, spelt, name_token, element_token, kind_of, own, reaches, bracketed, bare, type_tokens}
use Rattle.printing.specs.Printed.{declaration_tokens, declarations_tokens}
use Rattle.printing.specs.Printed.{left_of, right_of, under_not, before_index, before_length, before_call}
use Rattle.printing.specs.Printed.{parameters_tokens, method_tokens, methods_tokens, parent_tokens, class_tokens, classes_tokens}
use Rattle.printing.specs.Printed.{program_tokens}
use Rattle.printing.proofs.laws.Lexing.{Taken}
use Rattle.printing.proofs.laws.Digits.{number-taken, thousandths-taken}
use Rattle.printing.proofs.laws.Spelled.{listed, spelled, spelled-taken}

-- WHAT CAN BE WRITTEN

-- a name of a source
pub record Nameable (x : List ℕ) : Type 0 where
  pub name : is_name_lem (word_kind_lem x) ≡ true
  pub taken : Taken (name_token x)

-- what a literal counts
abbrev pub literal_count : Numeral → ℕ
literal_count (int_literal n) = n
literal_count (fixed_literal n) = n

-- what an array may hold
abbrev pub FitElement : Element → Type 0
FitElement int = Unit {0}
FitElement boolean = Unit {0}
FitElement fixed = ⊥
FitElement (class x) = Nameable x

abbrev pub Lexable : {s : Sort} → Part s → Type 0
Lexable (literal p n) = literal_count n ≤ literal_most
Lexable (truth p b) = Unit {0}
Lexable (variable p x) = Nameable x
Lexable (this p) = Unit {0}
Lexable (new_array_lem p u e) = FitElement u.element × Lexable e
Lexable (new_object_lem p c) = Nameable c.text
Lexable (negation p e) = Lexable e
Lexable (binary p o l r) = Lexable l × Lexable r
Lexable (element p a i) = Lexable a × Lexable i
Lexable (array_length p a) = Lexable a
Lexable (call p e m es) = Lexable e × Nameable m.text × Lexable es
Lexable (port_get_lem p e) = Lexable e
Lexable no_arguments = Unit {0}
Lexable (argument e es) = Lexable e × Lexable es
Lexable (block p ss) = Lexable ss
Lexable (conditional p e s t) = Lexable e × Lexable s × Lexable t
Lexable (loop p e s) = Lexable e × Lexable s
Lexable (print p e) = Lexable e
Lexable (assign p x e) = Nameable x × Lexable e
Lexable (assign_element_lem p x i e) = Nameable x × Lexable i × Lexable e
Lexable (port_put_lem p n e) = Lexable n × Lexable e
Lexable no_statements = Unit {0}
Lexable (sequence s ss) = Lexable s × Lexable ss

abbrev pub FitType : Ty → Type 0
FitType (plain int) = Unit {0}
FitType (plain boolean) = Unit {0}
FitType (plain fixed) = Unit {0}
FitType (plain (class x)) = Nameable x
FitType (array_of t) = FitElement t

abbrev pub FitVariable : Variable → Type 0
FitVariable v = FitType v.type.type × Nameable v.name.text

abbrev pub FitVariables : List Variable → Type 0
FitVariables [] = Unit {0}
FitVariables (v ∷ vs) = FitVariable v × FitVariables vs

pub record FitMethod (m : Method) : Type 0 where
  pub result : FitType m.result.type
  pub name : Nameable m.name.text
  pub parameters : FitVariables m.parameters
  pub locals : FitVariables m.locals
  pub body : Lexable m.body
  pub value : Lexable m.value

abbrev pub FitMethods : List Method → Type 0
FitMethods [] = Unit {0}
FitMethods (m ∷ ms) = FitMethod m × FitMethods ms

abbrev pub FitParent : Option Name → Type 0
FitParent none = Unit {0}
FitParent (some n) = Nameable n.text

pub record FitClass (c : Class) : Type 0 where
  pub name : Nameable c.name.text
  pub parent : FitParent c.parent
  pub fields : FitVariables c.fields
  pub methods : FitMethods c.methods

abbrev pub FitClasses : List Class → Type 0
FitClasses [] = Unit {0}
FitClasses (c ∷ cs) = FitClass c × FitClasses cs

pub record FitProgram (p : Program) : Type 0 where
  pub main : Nameable p.main.text
  pub parameter : Nameable p.parameter.text
  pub statement : Lexable p.statement
  pub classes : FitClasses p.classes

-- THE PRINTED TOKENS OF A FIT TREE

put : {rest : List Lexeme} (k : ℕ) → listed k spelled ≡ true → All Taken rest → All Taken (spelt k ∷ rest)
put k e h = all_cons (spelled-taken k e) h

taken-element : (t : Element) → FitElement t → Taken (element_token t)
taken-element int w = spelled-taken k_int refl
taken-element boolean w = spelled-taken k_boolean refl
taken-element fixed w = absurd w
taken-element (class x) w = w.taken

operator : {rest : List Lexeme} (o : Operator) → All Taken rest → All Taken (spelt (kind_of o) ∷ rest)
operator and h = put k_and refl h
operator less h = put k_less refl h
operator plus h = put k_plus refl h
operator minus h = put k_minus refl h
operator times h = put k_times refl h

pair : {rest : List Lexeme} (b : Bool) {f : List Lexeme → List Lexeme} → ((r : List Lexeme) → All Taken r → All Taken (f r))
    → All Taken rest → All Taken (bracketed b f rest)
pair {rest} true g h = g rest h
pair false g h = put k_open refl (g _ (put k_close refl h))

abbrev WellTaken : {s : Sort} → Part s → Type 0
WellTaken t = (r : List Lexeme) → All Taken r → All Taken (bare t r)

pub tokens-taken : {s : Sort} (t : Part s) → Lexable t → WellTaken t
unfolding bare
tokens-taken (literal p (int_literal n)) w r h = all_cons (number-taken n w) h
tokens-taken (literal p (fixed_literal n)) w r h = all_cons (thousandths-taken n w) h
tokens-taken (truth p true) w r h = put k_true refl h
tokens-taken (truth p false) w r h = put k_false refl h
tokens-taken (variable p x) w r h = all_cons w.taken h
tokens-taken (this p) w r h = put k_this refl h
tokens-taken (new_array_lem p u e) w r h =
    put k_new refl
    (all_cons (taken-element u.element w.0) (put k_open_bracket refl (tokens-taken e w.1 _ (put k_close_bracket refl h))))
tokens-taken (new_object_lem p c) w r h = put k_new refl (all_cons w.taken (put k_open refl (put k_close refl h)))
tokens-taken (negation p e) w r h = put k_not refl (pair (reaches under_not (own e)) (tokens-taken e w) h)
tokens-taken (binary p o x y) w r h =
    pair (reaches (left_of o) (own x)) (tokens-taken x w.0) (operator o (pair (reaches (right_of o) (own y)) (tokens-taken y w.1) h))
tokens-taken (element p a i) w r h =
    pair (reaches before_index (own a)) (tokens-taken a w.0) (put k_open_bracket refl (tokens-taken i w.1 _ (put k_close_bracket refl h)))
tokens-taken (array_length p a) w r h = pair (reaches before_length (own a)) (tokens-taken a w) (put k_dot refl (put k_length refl h))
tokens-taken (call p e m es) w r h =
    pair (reaches before_call (own e)) (tokens-taken e w.0)
    (put k_dot refl (all_cons w.1.taken (put k_open refl (tokens-taken es w.2 _ (put k_close refl h)))))
tokens-taken (port_get_lem p e) w r h =
    put k_port refl (put k_dot refl (put k_get refl (put k_open refl (tokens-taken e w _ (put k_close refl h)))))
tokens-taken no_arguments w r h = h
tokens-taken (argument e no_arguments) w r h = tokens-taken e w.0 r h
tokens-taken (argument e (argument x xs)) w r h = tokens-taken e w.0 _ (put k_comma refl (tokens-taken (argument x xs) w.1 r h))
tokens-taken (block p ss) w r h = put k_open_brace refl (tokens-taken ss w _ (put k_close_brace refl h))
tokens-taken (conditional p e s t) w r h =
    put k_if refl (put k_open refl (tokens-taken e w.0 _ (put k_close refl
    (tokens-taken s w.1 _ (put k_else refl (tokens-taken t w.2 r h))))))
tokens-taken (loop p e s) w r h = put k_while refl (put k_open refl (tokens-taken e w.0 _ (put k_close refl (tokens-taken s w.1 r h))))
tokens-taken (print p e) w r h =
    put k_system refl
    (put k_dot refl (put k_out refl (put k_dot refl (put k_println refl (put k_open refl (tokens-taken e w _
    (put k_close refl (put k_semicolon refl h))))))))
tokens-taken (assign p x e) w r h = all_cons w.0.taken (put k_assign refl (tokens-taken e w.1 _ (put k_semicolon refl h)))
tokens-taken (assign_element_lem p x i e) w r h =
    all_cons w.0.taken
    (put k_open_bracket refl (tokens-taken i w.1 _ (put k_close_bracket refl
    (put k_assign refl (tokens-taken e w.2 _ (put k_semicolon refl h))))))
tokens-taken (port_put_lem p n e) w r h =
    put k_port refl (put k_dot refl (put k_put refl (put k_open refl (tokens-taken n w.0 _
    (put k_comma refl (tokens-taken e w.1 _ (put k_close refl (put k_semicolon refl h))))))))
tokens-taken no_statements w r h = h
tokens-taken (sequence s ss) w r h = tokens-taken s w.0 _ (tokens-taken ss w.1 r h)

taken-type : {r : List Lexeme} (t : Ty) → FitType t → All Taken r → All Taken (type_tokens t r)
unfolding type_tokens
taken-type (plain int) w h = put k_int refl h
taken-type (plain boolean) w h = put k_boolean refl h
taken-type (plain fixed) w h = put k_fixed refl h
taken-type (plain (class x)) w h = all_cons w.taken h
taken-type (array_of t) w h = all_cons (taken-element t w) (put k_open_bracket refl (put k_close_bracket refl h))

taken-variable : {r : List Lexeme} (v : Variable) → FitVariable v → All Taken r → All Taken (declaration_tokens v r)
taken-variable v w h = taken-type v.type.type w.0 (all_cons w.1.taken h)

taken-variables : {r : List Lexeme} (vs : List Variable) → FitVariables vs → All Taken r → All Taken (declarations_tokens vs r)
unfolding declarations_tokens
taken-variables [] w h = h
taken-variables (v ∷ vs) w h = taken-variable v w.0 (put k_semicolon refl (taken-variables vs w.1 h))

taken-parameters : {r : List Lexeme} (vs : List Variable) → FitVariables vs → All Taken r → All Taken (parameters_tokens vs r)
unfolding parameters_tokens
taken-parameters [] w h = h
taken-parameters (v ∷ []) w h = taken-variable v w.0 h
taken-parameters (v ∷ u ∷ vs) w h = taken-variable v w.0 (put k_comma refl (taken-parameters (u ∷ vs) w.1 h))

taken-method : {r : List Lexeme} (m : Method) → FitMethod m → All Taken r → All Taken (method_tokens m r)
taken-method m w h =
    put k_public refl
    (taken-type m.result.type w.result (all_cons w.name.taken (put k_open refl (taken-parameters m.parameters w.parameters
    (put k_close refl (put k_open_brace refl (taken-variables m.locals w.locals (tokens-taken m.body w.body _
    (put k_return refl (tokens-taken m.value w.value _ (put k_semicolon refl (put k_close_brace refl h))))))))))))

taken-methods : {r : List Lexeme} (ms : List Method) → FitMethods ms → All Taken r → All Taken (methods_tokens ms r)
unfolding methods_tokens
taken-methods [] w h = h
taken-methods (m ∷ ms) w h = taken-method m w.0 (taken-methods ms w.1 h)

taken-parent : {r : List Lexeme} (o : Option Name) → FitParent o → All Taken r → All Taken (parent_tokens o r)
taken-parent none w h = h
taken-parent (some n) w h = put k_extends refl (all_cons w.taken h)

taken-class : {r : List Lexeme} (c : Class) → FitClass c → All Taken r → All Taken (class_tokens c r)
taken-class c w h =
    put k_class refl
    (all_cons w.name.taken (taken-parent c.parent w.parent (put k_open_brace refl (taken-variables c.fields w.fields
    (taken-methods c.methods w.methods (put k_close_brace refl h))))))

taken-classes : {r : List Lexeme} (cs : List Class) → FitClasses cs → All Taken r → All Taken (classes_tokens cs r)
unfolding classes_tokens
taken-classes [] w h = h
taken-classes (c ∷ cs) w h = taken-class c w.0 (taken-classes cs w.1 h)

-- The lexer takes every token of a program that is fit.
pub printed-taken : (p : Program) → FitProgram p → All Taken (program_tokens p)
unfolding program_tokens
printed-taken p w =
    put k_class refl
    (all_cons w.main.taken (put k_open_brace refl (put k_public refl (put k_static refl (put k_void refl (put k_main refl (put k_open refl
    (put k_string refl (put k_open_bracket refl (put k_close_bracket refl (all_cons w.parameter.taken (put k_close refl (put k_open_brace refl
    (tokens-taken p.statement w.statement _ (put k_close_brace refl (put k_close_brace refl
    (taken-classes p.classes w.classes all_nil)))))))))))))))))
