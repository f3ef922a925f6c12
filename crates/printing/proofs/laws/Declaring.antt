-- The grammar derives the printed declarations, up to positions: theorem `derived` for whole programs.
use Rattle.std.specs.Prelude.{ℕ, ◌+◌, ◌≡◌}
use Rattle.std.proofs.Math.Path.{refl, ap}
use Rattle.std.proofs.Common.{◌∙◌, subst, arith}
use mathlib.Core.List.{List, [], ◌∷◌}
use Rattle.std.proofs.Math.Option.{Option, none, some}
use Rattle.std.proofs.Math.ListN.{length}
use Rattle.lexer.specs.Tokens.{Token}
use Rattle.lexer.specs.Kinds.{k_open, k_public}
use Rattle.parser.specs.Tree.{Name, TypeUse, Variable, Method, Class, Program}
use Rattle.parser.specs.Tree.{Element, Element.int, Element.boolean, Element.fixed, Element.class, Ty, Ty.plain, Ty.array_of}
use Rattle.parser.specs.Stream.{kind_at}
use Rattle.parser.specs.Grammar.{an_expression, MainHead}
use Rattle.parser.specs.Grammar.{DerivesElement, an_int, a-boolean, a-class, DerivesType, an-array, no-mark, a-fixed}
use Rattle.parser.specs.Grammar.{DerivesVariable, a-variable, DerivesVariables, no-variable, more-variables}
use Rattle.parser.specs.Grammar.{DerivesParameters, one-parameter, more-parameters, DerivesFormals, no-formal, some-formals}
use Rattle.parser.specs.Grammar.{DerivesMethod, a-method, DerivesMethods, no-method, more-methods, DerivesParent, no-parent, a-parent}
use Rattle.parser.specs.Grammar.{DerivesClass, a-class-declaration, DerivesClasses, no-class, more-classes, DerivesProgram, a_program}
use Rattle.printing.specs.Printed.{Lexeme, element_token, own, type_tokens, declaration_tokens, declarations_tokens, parameters_tokens}
use Rattle.printing.specs.Printed.{body_tokens, method_tokens, methods_tokens, parent_tokens}
use Rattle.printing.specs.Printed.{class_tokens, classes_tokens, program_tokens}
use Rattle.printing.specs.Same.{unplaced, erase_type, erase_variable, erase_variables, erase_method, erase_methods, erase_parent}
use Rattle.printing.specs.Same.{erase_class, erase_classes, erase_program, SameProgram}
use Rattle.printing.proofs.laws.Fitting.{FitType, FitVariable, FitVariables, FitMethod, FitMethods, FitParent, FitClass, FitClasses}
use Rattle.printing.proofs.laws.Fitting.{FitProgram}
use Rattle.printing.proofs.laws.Reading.{From, kind, kind-at, text, text_at, skip, a-name-at, an-element, whole, stated}
use Rattle.printing.proofs.laws.Reading.{in_order}
use Rattle.printing.proofs.laws.Reading.{found}

-- from token i on there is derived what is equal to a by `e`, and `rest` is left
pub record Got (ts : List Token) {A B : Type 0} (D : ℕ → ℕ → A → Type 0) (e : A → B) (i : ℕ) (a : A) (rest : List Lexeme) : Type 0 where
  pub item : A
  pub end : ℕ
  pub derived : D i end item
  pub same : e item ≡ e a
  pub after : From ts end rest

module _ (ts : List Token) where
  got-type : (t : TypeUse) → FitType t.type → (i : ℕ) (rest : List Lexeme) → From ts i (type_tokens t.type rest)
      → Got ts (DerivesType ts) erase_type i t rest
  unfolding type_tokens
  got-type t w i rest f = go t.type w f refl
    where
      type_of : Ty → TypeUse
      type_of y = record { row = 0; start = 0; type = y }

      one : {y : Element} → DerivesElement ts i y → plain y ≡ t.type → From ts i (element_token y ∷ rest)
          → Got ts (DerivesType ts) erase_type i t rest
      one d q f = record { item = _; end = i + 1; derived = no-mark d; same = ap type_of q; after = skip 1 (omega arith) f }

      go : (y : Ty) → FitType y → From ts i (type_tokens y rest) → y ≡ t.type → Got ts (DerivesType ts) erase_type i t rest
      go (plain int) w f q = one (an-element ts i int w (kind f) (text f)) q f
      go (plain boolean) w f q = one (an-element ts i boolean w (kind f) (text f)) q f
      go (plain fixed) w f q =
          record { item = _; end = i + 1; derived = a-fixed (kind f); same = ap type_of q; after = skip 1 (omega arith) f }
      go (plain (class x)) w f q = one (an-element ts i (class x) w (kind f) (text f)) q f
      go (array_of y) w f q = record {
        item = _;
        end = i + 3;
        derived = an-array (an-element ts i y w (kind f) (text f)) (kind-at f 1) (kind-at f 2);
        same = ap type_of q;
        after = skip 3 (omega arith) f;
      }

  got-variable : (v : Variable) → FitVariable v → (i : ℕ) (rest : List Lexeme) → From ts i (declaration_tokens v rest)
      → Got ts (DerivesVariable ts) erase_variable i v rest
  got-variable v w i rest f =
      let x = got-type v.type w.0 i _ f in
      record {
        item = _;
        end = x.end + 1;
        derived = a-variable x.derived (a-name-at ts (kind x.after) w.1.name);
        same = rw (x.same, text x.after);
        after = skip 1 (omega arith) x.after;
      }

  of-variable : (v : Variable) (vs : List Variable) → FitVariable v
      → ((i : ℕ) (rest : List Lexeme) → From ts i (declarations_tokens vs rest) → Got ts (DerivesVariables ts) erase_variables i vs rest)
      → (i : ℕ) (rest : List Lexeme) → From ts i (declarations_tokens (v ∷ vs) rest) → Got ts (DerivesVariables ts) erase_variables i (v ∷ vs)
      rest
  unfolding declarations_tokens erase_variables
  of-variable v vs w h i rest f =
      let x = got-variable v w i _ f in
      let y = h (x.end + 1) _ (skip 1 (omega arith) x.after) in
      record {
        item = _;
        end = y.end;
        derived = more-variables x.derived (kind x.after) y.derived;
        same = rw (x.same, y.same);
        after = y.after;
      }

  got-variables : (vs : List Variable) → FitVariables vs → (i : ℕ) (rest : List Lexeme) → From ts i (declarations_tokens vs rest)
      → Got ts (DerivesVariables ts) erase_variables i vs rest
  unfolding declarations_tokens
  got-variables [] w = λ i rest f. record { item = _; end = i; derived = no-variable; same = refl; after = f }
  got-variables (v ∷ vs) w = of-variable v vs w.0 (got-variables vs w.1)

  -- one parameter or more
  of-last-parameter : (v : Variable) → FitVariable v
      → (i : ℕ) (rest : List Lexeme) → From ts i (parameters_tokens (v ∷ []) rest) → Got ts (DerivesParameters ts) erase_variables i (v ∷ [])
      rest
  unfolding parameters_tokens erase_variables
  of-last-parameter v w i rest f =
      let x = got-variable v w i _ f in
      record { item = _; end = x.end; derived = one-parameter x.derived; same = rw x.same; after = x.after }

  of-more-parameters : (v u : Variable) (vs : List Variable) → FitVariable v
      → ((i : ℕ) (rest : List Lexeme) → From ts i (parameters_tokens (u ∷ vs) rest) → Got ts (DerivesParameters ts) erase_variables i (u ∷ vs)
      rest)
      → (i : ℕ) (rest : List Lexeme) → From ts i (parameters_tokens (v ∷ u ∷ vs) rest)
      → Got ts (DerivesParameters ts) erase_variables i (v ∷ u ∷ vs) rest
  unfolding parameters_tokens erase_variables
  of-more-parameters v u vs w h i rest f =
      let x = got-variable v w i _ f in
      let y = h (x.end + 1) _ (skip 1 (omega arith) x.after) in
      record {
        item = _;
        end = y.end;
        derived = more-parameters x.derived (kind x.after) y.derived;
        same = ap (λ (z : Variable). z ∷ erase_variables y.item) x.same ∙ ap (λ (zs : List Variable). erase_variable v ∷ zs) y.same;
        after = y.after;
      }

  got-parameters : (v : Variable) (vs : List Variable) → FitVariables (v ∷ vs)
      → (i : ℕ) (rest : List Lexeme) → From ts i (parameters_tokens (v ∷ vs) rest) → Got ts (DerivesParameters ts) erase_variables i (v ∷ vs)
      rest
  got-parameters v [] w = of-last-parameter v w.0
  got-parameters v (u ∷ vs) w = of-more-parameters v u vs w.0 (got-parameters u vs w.1)

  got-formals : (vs : List Variable) → FitVariables vs → (i : ℕ) (rest : List Lexeme) → From ts i (parameters_tokens vs rest)
      → Got ts (DerivesFormals ts) erase_variables i vs rest
  unfolding parameters_tokens
  got-formals [] w i rest f = record { item = _; end = i; derived = no-formal; same = refl; after = f }
  got-formals (v ∷ vs) w i rest f =
      let x = got-parameters v vs w i rest f in
      record { item = _; end = x.end; derived = some-formals x.derived; same = x.same; after = x.after }

  -- a method in two halves: its head up to its parameters, and the rest
  got-method : (m : Method) → FitMethod m → (i : ℕ) (rest : List Lexeme) → From ts i (method_tokens m rest)
      → Got ts (DerivesMethod ts) erase_method i m rest
  got-method m w i rest f =
      let v : Variable = record { type = m.result; name = m.name } in
      let x = got-variable v (w.result, w.name) (i + 1) _ (skip 1 (omega arith) f) in
      let y = got-formals m.parameters w.parameters (x.end + 1) _ (skip 1 (omega arith) x.after) in
      bodied-got x.item y.item (kind f) x.derived (kind x.after) y.derived x.same y.same y.after
    where
      bodied-got : {a b : ℕ} (head : Variable) (ps : List Variable) → kind_at ts i ≡ k_public → DerivesVariable ts (i + 1) a head
          → kind_at ts a ≡ k_open
          → DerivesFormals ts (a + 1) b ps → erase_variable head ≡ erase_variable (record { type = m.result; name = m.name })
          → erase_variables ps ≡ erase_variables m.parameters → From ts b (body_tokens m rest) → Got ts (DerivesMethod ts) erase_method i m
          rest
      bodied-got {b} head ps e dh e₁ dp q q₁ f =
          let x = got-variables m.locals w.locals (b + 2) _ (skip 2 (omega arith) f) in
          let y = in_order ts (own m.body) (found ts m.body w.body x.end _ x.after) in
          let z = whole ts an_expression m.value (found ts m.value w.value) (y.end + 1) _
          (skip 1 (omega arith) y.after) in
          record {
            item = _;
            end = z.end + 2;
            derived =
                a-method e dh e₁ dp (kind f) (kind-at f 1) x.derived y.derived (kind y.after) z.derived (kind z.after)
                (kind-at z.after 1);
            same = λ n. record {
              result = (q n).type;
              name = (q n).name;
              parameters = q₁ n;
              locals = x.same n;
              body = y.same n;
              value = z.same n;
            };
            after = skip 2 (omega arith) z.after;
          }

  of-method : (m : Method) (ms : List Method) → FitMethod m
      → ((i : ℕ) (rest : List Lexeme) → From ts i (methods_tokens ms rest) → Got ts (DerivesMethods ts) erase_methods i ms rest)
      → (i : ℕ) (rest : List Lexeme) → From ts i (methods_tokens (m ∷ ms) rest) → Got ts (DerivesMethods ts) erase_methods i (m ∷ ms) rest
  unfolding methods_tokens erase_methods
  of-method m ms w h i rest f =
      let x = got-method m w i _ f in
      let y = h x.end _ x.after in
      record {
        item = _;
        end = y.end;
        derived = more-methods x.derived y.derived;
        same = λ n. x.same n ∷ y.same n;
        after = y.after;
      }

  got-methods : (ms : List Method) → FitMethods ms → (i : ℕ) (rest : List Lexeme) → From ts i (methods_tokens ms rest)
      → Got ts (DerivesMethods ts) erase_methods i ms rest
  unfolding methods_tokens
  got-methods [] w = λ i rest f. record { item = _; end = i; derived = no-method; same = refl; after = f }
  got-methods (m ∷ ms) w = of-method m ms w.0 (got-methods ms w.1)

  got-parent : (o : Option Name) → FitParent o → (i : ℕ) (rest : List Lexeme) → From ts i (parent_tokens o rest)
      → Got ts (DerivesParent ts) erase_parent i o rest
  got-parent none w i rest f = record { item = _; end = i; derived = no-parent; same = refl; after = f }
  got-parent (some n) w i rest f = record {
    item = _;
    end = i + 2;
    derived = a-parent (kind f) (a-name-at ts (kind-at f 1) w.name);
    same = ap (λ (x : List ℕ). some (unplaced x)) (text_at f 1);
    after = skip 2 (omega arith) f;
  }

  got-class : (c : Class) → FitClass c → (i : ℕ) (rest : List Lexeme) → From ts i (class_tokens c rest)
      → Got ts (DerivesClass ts) erase_class i c rest
  got-class c w i rest f =
      let x = got-parent c.parent w.parent (i + 2) _ (skip 2 (omega arith) f) in
      let y = got-variables c.fields w.fields (x.end + 1) _ (skip 1 (omega arith) x.after) in
      let z = got-methods c.methods w.methods y.end _ y.after in
      record {
        item = _;
        end = z.end + 1;
        derived =
            a-class-declaration (kind f) (a-name-at ts (kind-at f 1) w.name.name) x.derived (kind x.after) y.derived
            z.derived (kind z.after);
        same = λ n. record { name = unplaced (text_at f 1 n); parent = x.same n; fields = y.same n; methods = z.same n };
        after = skip 1 (omega arith) z.after;
      }

  of-class : (c : Class) (cs : List Class) → FitClass c
      → ((i : ℕ) (rest : List Lexeme) → From ts i (classes_tokens cs rest) → Got ts (DerivesClasses ts) erase_classes i cs rest)
      → (i : ℕ) (rest : List Lexeme) → From ts i (classes_tokens (c ∷ cs) rest) → Got ts (DerivesClasses ts) erase_classes i (c ∷ cs) rest
  unfolding classes_tokens erase_classes
  of-class c cs w h i rest f =
      let x = got-class c w i _ f in
      let y = h x.end _ x.after in
      record {
        item = _;
        end = y.end;
        derived = more-classes x.derived y.derived;
        same = λ n. x.same n ∷ y.same n;
        after = y.after;
      }

  got-classes : (cs : List Class) → FitClasses cs → (i : ℕ) (rest : List Lexeme) → From ts i (classes_tokens cs rest)
      → Got ts (DerivesClasses ts) erase_classes i cs rest
  unfolding classes_tokens
  got-classes [] w = λ i rest f. record { item = _; end = i; derived = no-class; same = refl; after = f }
  got-classes (c ∷ cs) w = of-class c cs w.0 (got-classes cs w.1)

  main-head : (p : Program) → FitProgram p → From ts 0 (program_tokens p) → MainHead ts
  unfolding program_tokens
  main-head p w f = record {
    at0 = kind-at f 0;
    at1 = a-name-at ts (kind-at f 1) w.main.name;
    at2 = kind-at f 2;
    at3 = kind-at f 3;
    at4 = kind-at f 4;
    at5 = kind-at f 5;
    at6 = kind-at f 6;
    at7 = kind-at f 7;
    at8 = kind-at f 8;
    at9 = kind-at f 9;
    at10 = kind-at f 10;
    at11 = a-name-at ts (kind-at f 11) w.parameter.name;
    at12 = kind-at f 12;
    at13 = kind-at f 13;
  }

  -- The grammar derives from the printed tokens of a tree that tree, up to positions.
  pub derived : (p : Program) → FitProgram p → From ts 0 (program_tokens p) → (q : Program) × DerivesProgram ts q × SameProgram q p
  unfolding program_tokens erase_program
  derived p w f =
      let x = stated ts (own p.statement) (found ts p.statement w.statement 14 _ (skip 14 (omega arith) f)) in
      let y = got-classes p.classes w.classes (x.end + 2) _ (skip 2 (omega arith) x.after) in
      let all : y.end ≡ length ts = omega (arith, y.after.count) in (
        _,
        a_program (main-head p w f) x.derived (kind x.after) (kind-at x.after 1)
            (subst (λ (n : ℕ). DerivesClasses ts (x.end + 2) n y.item) all y.derived),
        λ n. record { main = unplaced (text_at f 1 n); parameter = unplaced (text_at f 11 n); statement = x.same n; classes = y.same n },
      )
