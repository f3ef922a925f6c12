-- The tokens of a tree, piece by piece, in the order in which a walk writes them: what follows a part is appended to it.
use Rattle.std.specs.Prelude.{ℕ, ◌≡◌}
use Rattle.std.proofs.Math.Path.{refl}
use Rattle.std.proofs.Common.{sym, ap, ◌∙◌}
use mathlib.Core.List.{List, [], ◌∷◌, ◌++◌, append_assoc}
use Rattle.std.proofs.Math.Option.{Option, none, some}
use Rattle.lexer.specs.Kinds.{k_out, k_println, k_get, k_put, k_class, k_else, k_extends, k_if, k_length, k_main, k_new, k_port, k_public, k_return}
use Rattle.lexer.specs.Kinds.{k_static, k_string, k_system, k_void, k_while, k_not, k_assign, k_dot, k_comma, k_semicolon, k_open, k_close}
use Rattle.lexer.specs.Kinds.{k_open_bracket, k_close_bracket, k_open_brace, k_close_brace}
use Rattle.parser.specs.Tree.{Place, Name, Operator, ElementUse, Part, Expression, Statement, Ty, Ty.plain, Ty.array_of, Variable, Method}
use Rattle.parser.specs.Tree.{Class, Program, Sort.arguments, Sort.statements}
use Rattle.parser.specs.Tree.{Part.new_array_lem, Part.negation, Part.binary, Part.element, Part.array_length, Part.call, Part.port_get_lem}
use Rattle.parser.specs.Tree.{Part.argument, Part.block, Part.conditional, Part.loop, Part.print, Part.assign, Part.assign_element_lem}
use Rattle.parser.specs.Tree.{Part.port_put_lem, Part.sequence}
use Rattle.printing.specs.Printed.{Lexeme, spelt, name_token, element_token, kind_of, left_of, right_of, under_not, before_index}
use Rattle.printing.specs.Printed.{before_length}
use Rattle.printing.specs.Printed.{before_call, bare, print_in, type_tokens, declaration_tokens, declarations_tokens, parameters_tokens}
use Rattle.printing.specs.Printed.{body_tokens, method_tokens, methods_tokens}
use Rattle.printing.specs.Printed.{parent_tokens, class_tokens, classes_tokens, program_tokens}
use Rattle.printing.proofs.laws.Appending.{bare-append, placed-append}

-- EXPRESSIONS

-- a part and what stands behind it
abbrev then_by : {A : Type 0} → (front : List A) → {x y : List A} → x ≡ y → front ++ x ≡ front ++ y
then_by {A} front e = ap (λ (l : List A). front ++ l) e

module _ (p : Place) where
  pub of-new-array : (u : ElementUse) (e : Expression) → bare (new_array_lem p u e) []
      ≡ (spelt k_new ∷ element_token u.element ∷ spelt k_open_bracket ∷ []) ++ (bare e [] ++ spelt k_close_bracket ∷ [])
  unfolding bare
  of-new-array u e =
      then_by (spelt k_new ∷ element_token u.element ∷ spelt k_open_bracket ∷ []) (bare-append e [] (spelt k_close_bracket ∷ []))

  pub of-negation : (e : Expression) → bare (negation p e) [] ≡ (spelt k_not ∷ []) ++ print_in under_not e []
  unfolding bare
  of-negation e = refl

  pub of-binary : (o : Operator) (l r : Expression)
      → bare (binary p o l r) [] ≡ print_in (left_of o) l [] ++ ((spelt (kind_of o) ∷ []) ++ print_in (right_of o) r [])
  unfolding bare
  of-binary o l r = placed-append (left_of o) l [] (spelt (kind_of o) ∷ print_in (right_of o) r [])

  pub of-element : (a i : Expression) → bare (element p a i) []
      ≡ print_in before_index a [] ++ ((spelt k_open_bracket ∷ []) ++ (bare i [] ++ spelt k_close_bracket ∷ []))
  unfolding bare
  of-element a i =
      placed-append before_index a [] (spelt k_open_bracket ∷ bare i (spelt k_close_bracket ∷ []))
      ∙ then_by (print_in before_index a []) (then_by (spelt k_open_bracket ∷ []) (bare-append i [] (spelt k_close_bracket ∷ [])))

  pub of_length : (a : Expression) → bare (array_length p a) [] ≡ print_in before_length a [] ++ (spelt k_dot ∷ spelt k_length ∷ [])
  unfolding bare
  of_length a = placed-append before_length a [] (spelt k_dot ∷ spelt k_length ∷ [])

  pub of-call : (e : Expression) (m : Name) (es : Part arguments) → bare (call p e m es) []
      ≡ print_in before_call e [] ++ ((spelt k_dot ∷ name_token m.text ∷ spelt k_open ∷ []) ++ (bare es [] ++ spelt k_close ∷ []))
  unfolding bare
  of-call e m es =
      placed-append before_call e [] (spelt k_dot ∷ name_token m.text ∷ spelt k_open ∷ bare es (spelt k_close ∷ []))
      ∙ then_by (print_in before_call e [])
      (then_by (spelt k_dot ∷ name_token m.text ∷ spelt k_open ∷ []) (bare-append es [] (spelt k_close ∷ [])))

  pub of-port-get : (e : Expression)
      → bare (port_get_lem p e) [] ≡ (spelt k_port ∷ spelt k_dot ∷ spelt k_get ∷ spelt k_open ∷ []) ++ (bare e [] ++ spelt k_close ∷ [])
  unfolding bare
  of-port-get e = then_by (spelt k_port ∷ spelt k_dot ∷ spelt k_get ∷ spelt k_open ∷ []) (bare-append e [] (spelt k_close ∷ []))

  -- STATEMENTS

  pub of-block : (ss : Part statements) → bare (block p ss) [] ≡ (spelt k_open_brace ∷ []) ++ (bare ss [] ++ spelt k_close_brace ∷ [])
  unfolding bare
  of-block ss = then_by (spelt k_open_brace ∷ []) (bare-append ss [] (spelt k_close_brace ∷ []))

  pub of-conditional : (e : Expression) (s t : Statement) → bare (conditional p e s t) []
      ≡ (spelt k_if ∷ spelt k_open ∷ []) ++ (bare e [] ++ ((spelt k_close ∷ []) ++ (bare s [] ++ ((spelt k_else ∷ []) ++ bare t []))))
  unfolding bare
  of-conditional e s t =
      then_by (spelt k_if ∷ spelt k_open ∷ [])
      (bare-append e [] (spelt k_close ∷ bare s (spelt k_else ∷ bare t []))
      ∙ then_by (bare e []) (then_by (spelt k_close ∷ []) (bare-append s [] (spelt k_else ∷ bare t []))))

  pub of-loop : (e : Expression) (s : Statement)
      → bare (loop p e s) [] ≡ (spelt k_while ∷ spelt k_open ∷ []) ++ (bare e [] ++ ((spelt k_close ∷ []) ++ bare s []))
  unfolding bare
  of-loop e s = then_by (spelt k_while ∷ spelt k_open ∷ []) (bare-append e [] (spelt k_close ∷ bare s []))

  pub of-print : (e : Expression) → bare (print p e) []
      ≡ (spelt k_system ∷ spelt k_dot ∷ spelt k_out ∷ spelt k_dot ∷ spelt k_println ∷ spelt k_open ∷ [])
      ++ (bare e [] ++ spelt k_close ∷ spelt k_semicolon ∷ [])
  unfolding bare
  of-print e =
      then_by (spelt k_system ∷ spelt k_dot ∷ spelt k_out ∷ spelt k_dot ∷ spelt k_println ∷ spelt k_open ∷ [])
      (bare-append e [] (spelt k_close ∷ spelt k_semicolon ∷ []))

  pub of-assign : (x : List ℕ) (e : Expression)
      → bare (assign p x e) [] ≡ (name_token x ∷ spelt k_assign ∷ []) ++ (bare e [] ++ spelt k_semicolon ∷ [])
  unfolding bare
  of-assign x e = then_by (name_token x ∷ spelt k_assign ∷ []) (bare-append e [] (spelt k_semicolon ∷ []))

  pub of-assign-element : (x : List ℕ) (i e : Expression) → bare (assign_element_lem p x i e) []
      ≡ (name_token x ∷ spelt k_open_bracket ∷ [])
      ++ (bare i [] ++ ((spelt k_close_bracket ∷ spelt k_assign ∷ []) ++ (bare e [] ++ spelt k_semicolon ∷ [])))
  unfolding bare
  of-assign-element x i e =
      then_by (name_token x ∷ spelt k_open_bracket ∷ [])
      (bare-append i [] (spelt k_close_bracket ∷ spelt k_assign ∷ bare e (spelt k_semicolon ∷ []))
      ∙ then_by (bare i []) (then_by (spelt k_close_bracket ∷ spelt k_assign ∷ []) (bare-append e [] (spelt k_semicolon ∷ []))))

  pub of-port-put : (n e : Expression) → bare (port_put_lem p n e) []
      ≡ (spelt k_port ∷ spelt k_dot ∷ spelt k_put ∷ spelt k_open ∷ [])
      ++ (bare n [] ++ ((spelt k_comma ∷ []) ++ (bare e [] ++ spelt k_close ∷ spelt k_semicolon ∷ [])))
  unfolding bare
  of-port-put n e =
      then_by (spelt k_port ∷ spelt k_dot ∷ spelt k_put ∷ spelt k_open ∷ [])
      (bare-append n [] (spelt k_comma ∷ bare e (spelt k_close ∷ spelt k_semicolon ∷ []))
      ∙ then_by (bare n []) (then_by (spelt k_comma ∷ []) (bare-append e [] (spelt k_close ∷ spelt k_semicolon ∷ []))))

-- LISTS

pub of-arguments : (e x : Expression) (xs : Part arguments)
    → bare (argument e (argument x xs)) [] ≡ bare e [] ++ ((spelt k_comma ∷ []) ++ bare (argument x xs) [])
unfolding bare
of-arguments e x xs = bare-append e [] (spelt k_comma ∷ bare (argument x xs) [])

pub of-sequence : (s : Statement) (ss : Part statements) → bare (sequence s ss) [] ≡ bare s [] ++ bare ss []
unfolding bare
of-sequence s ss = bare-append s [] (bare ss [])

-- DECLARATIONS

typed-append : (t : Ty) (y : List Lexeme) → type_tokens t y ≡ type_tokens t [] ++ y
unfolding type_tokens
typed-append (plain t) y = refl
typed-append (array_of t) y = refl

pub of-declared : (v : Variable) (y : List Lexeme) → declaration_tokens v y ≡ type_tokens v.type.type [] ++
    ((name_token v.name.text ∷ []) ++ y)
of-declared v y = typed-append v.type.type (name_token v.name.text ∷ y)

pub variables-append : (vs : List Variable) (y : List Lexeme) → declarations_tokens vs y ≡ declarations_tokens vs [] ++ y
unfolding declarations_tokens type_tokens
variables-append [] y = refl
variables-append (v ∷ vs) y =
    ap (λ (l : List Lexeme). declaration_tokens v (spelt k_semicolon ∷ l)) (variables-append vs y) ∙ moved v.type.type
  where
    moved : (t : Ty)
        → type_tokens t (name_token v.name.text ∷ spelt k_semicolon ∷ (declarations_tokens vs [] ++ y))
        ≡ type_tokens t (name_token v.name.text ∷ spelt k_semicolon ∷ declarations_tokens vs []) ++ y
    moved (plain t) = refl
    moved (array_of t) = refl

pub parameters-append : (vs : List Variable) (y : List Lexeme) → parameters_tokens vs y ≡ parameters_tokens vs [] ++ y
unfolding parameters_tokens type_tokens
parameters-append [] y = refl
parameters-append (v ∷ []) y = moved v.type.type
  where
    moved : (t : Ty) → type_tokens t (name_token v.name.text ∷ y) ≡ type_tokens t (name_token v.name.text ∷ []) ++ y
    moved (plain t) = refl
    moved (array_of t) = refl
parameters-append (v ∷ w ∷ vs) y =
    ap (λ (l : List Lexeme). declaration_tokens v (spelt k_comma ∷ l)) (parameters-append (w ∷ vs) y) ∙ moved v.type.type
  where
    moved : (t : Ty)
        → type_tokens t (name_token v.name.text ∷ spelt k_comma ∷ (parameters_tokens (w ∷ vs) [] ++ y))
        ≡ type_tokens t (name_token v.name.text ∷ spelt k_comma ∷ parameters_tokens (w ∷ vs) []) ++ y
    moved (plain t) = refl
    moved (array_of t) = refl

-- a method: its head, its parameters, its locals, its statements and its return expression
pub of-method : (m : Method) (y : List Lexeme) → method_tokens m y
    ≡ (spelt k_public ∷ []) ++ (type_tokens m.result.type [] ++
    ((name_token m.name.text ∷ spelt k_open ∷ []) ++ (parameters_tokens m.parameters []
    ++ ((spelt k_close ∷ spelt k_open_brace ∷ []) ++ (declarations_tokens m.locals [] ++ (bare m.body []
    ++ ((spelt k_return ∷ []) ++ (bare m.value [] ++ spelt k_semicolon ∷ spelt k_close_brace ∷ y))))))))
of-method m y =
    let e = spelt k_semicolon ∷ spelt k_close_brace ∷ y in
    let d = spelt k_return ∷ bare m.value e in
    then_by (spelt k_public ∷ [])
    (typed-append m.result.type (name_token m.name.text ∷ spelt k_open ∷ parameters_tokens m.parameters (body_tokens m y))
    ∙ then_by (type_tokens m.result.type []) (then_by (name_token m.name.text ∷ spelt k_open ∷ [])
    (parameters-append m.parameters (body_tokens m y)
    ∙ then_by (parameters_tokens m.parameters []) (then_by (spelt k_close ∷ spelt k_open_brace ∷ [])
    (variables-append m.locals (bare m.body d)
    ∙ then_by (declarations_tokens m.locals [])
    (bare-append m.body [] d ∙ then_by (bare m.body []) (then_by (spelt k_return ∷ []) (bare-append m.value [] e))))))))

pub methods-append : (ms : List Method) (y : List Lexeme) → methods_tokens ms y ≡ methods_tokens ms [] ++ y
unfolding methods_tokens
methods-append [] y = refl
methods-append (m ∷ ms) y =
    ap (method_tokens m) (methods-append ms y) ∙ method-append m (methods_tokens ms []) y
  where
    method-append : (m : Method) (x y : List Lexeme) → method_tokens m (x ++ y) ≡ method_tokens m x ++ y
    method-append m x y = of-method m (x ++ y) ∙ sym (simp append_assoc) ∙ ap (λ (l : List Lexeme). l ++ y) (sym (of-method m x))

-- a class: its name, its parent, its fields and its methods
pub of-class : (c : Class) (y : List Lexeme) → class_tokens c y
    ≡ (spelt k_class ∷ name_token c.name.text ∷ []) ++ (parent_tokens c.parent [] ++
    ((spelt k_open_brace ∷ []) ++ (declarations_tokens c.fields []
    ++ (methods_tokens c.methods [] ++ spelt k_close_brace ∷ y))))
of-class c y =
    let e = spelt k_close_brace ∷ y in
    then_by (spelt k_class ∷ name_token c.name.text ∷ [])
    (parent-append c.parent (spelt k_open_brace ∷ declarations_tokens c.fields (methods_tokens c.methods e))
    ∙ then_by (parent_tokens c.parent []) (then_by (spelt k_open_brace ∷ [])
    (variables-append c.fields (methods_tokens c.methods e) ∙ then_by (declarations_tokens c.fields [])
    (methods-append c.methods e))))
  where
    parent-append : (o : Option Name) (y : List Lexeme) → parent_tokens o y ≡ parent_tokens o [] ++ y
    parent-append none y = refl
    parent-append (some n) y = refl

-- A PROGRAM: main's head, its statement, two braces and the classes

pub of-program : (p : Program) → program_tokens p
    ≡ (spelt k_class ∷ name_token p.main.text ∷ spelt k_open_brace ∷ spelt k_public ∷ spelt k_static ∷ spelt k_void ∷ spelt k_main ∷ spelt k_open
    ∷ spelt k_string ∷ spelt k_open_bracket ∷ spelt k_close_bracket ∷ name_token p.parameter.text ∷ spelt k_close ∷ spelt k_open_brace ∷ [])
    ++ (bare p.statement [] ++ ((spelt k_close_brace ∷ spelt k_close_brace ∷ []) ++ classes_tokens p.classes []))
unfolding program_tokens
of-program p =
    then_by
    (spelt k_class ∷ name_token p.main.text ∷ spelt k_open_brace ∷ spelt k_public ∷ spelt k_static ∷ spelt k_void ∷ spelt k_main ∷ spelt k_open
    ∷ spelt k_string ∷ spelt k_open_bracket ∷ spelt k_close_bracket ∷ name_token p.parameter.text ∷ spelt k_close ∷ spelt k_open_brace ∷ [])
    (bare-append p.statement [] (spelt k_close_brace ∷ spelt k_close_brace ∷ classes_tokens p.classes []))
