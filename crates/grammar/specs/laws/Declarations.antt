-- The parsers of declarations and of the whole program, as those of expressions and statements: what they answer the grammar derives,
-- they do what the machine does, and the fuel is enough.
use Prim.Native.Nat.{ℕ, zero, suc, ◌+◌, ◌*◌, ◌-◌, ◌≤◌, ◌<◌}
use Rattle.std.specs.Prelude.{◌≡◌, List, [], ◌∷◌, ◌++◌, Bool, ◌&&◌, ◌||◌, eqb}
use Rattle.std.proofs.Math.Path.{refl}
use Rattle.std.proofs.Common.{sym, arith, eqb-true}
use Rattle.std.proofs.Math.Bool.{true, false, not}
use Rattle.std.proofs.Math.Numerals.{towards_numerals}
use Rattle.std.proofs.Math.ListN.{length}
use Rattle.base.specs.laws.Tests.{and-true}
use Rattle.lexer.specs.Tokens.{Token}
use Rattle.lexer.specs.Kinds.{k_end, k_class, k_extends, k_fixed, k_main, k_public, k_return, k_static, k_string, k_void}
use Rattle.lexer.specs.Kinds.{k_comma, k_semicolon, k_open, k_close, k_open_bracket, k_close_bracket, k_open_brace, k_close_brace, is_name_lem}
use Rattle.parser.specs.Tree.{Sort.statements, Variable}
use Rattle.parser.specs.Stream.{kind_at, Level.conjunction}
use Rattle.parser.specs.Parse.{ok, bind, expect, Mode, an_expression, begins_statement_lem, step, parse_as}
use Rattle.parser.specs.Parse.{type_from, begins_type_lem, variable_from, marked, begins_variable, variables_from}
use Rattle.parser.specs.Parse.{some_parameters_lem, parameters_from, method_from, methods_from, parent_from, class_from, classes_from, program_from}
use Rattle.parser.specs.Parse.{parse}
use Rattle.parser.specs.Grammar.{Kind, Derives, more-statements, a-class, DerivesType, an-array, no-mark, DerivesVariable, a-variable}
use Rattle.parser.specs.Grammar.{a-fixed, DerivesVariables, no-variable, more-variables}
use Rattle.parser.specs.Grammar.{DerivesParameters, one-parameter, more-parameters, DerivesFormals, no-formal, some-formals, DerivesMethod}
use Rattle.parser.specs.Grammar.{a-method, DerivesMethods, no-method, more-methods}
use Rattle.parser.specs.Grammar.{DerivesParent, no-parent, a-parent, DerivesClass, a-class-declaration, DerivesClasses, no-class}
use Rattle.parser.specs.Grammar.{more-classes, DerivesProgram, a_program}
use Rattle.grammar.specs.laws.Recogniser.{Symbol, rule, is_basic, target_end, one, a_name, a_type, after_element, fields, locals}
use Rattle.grammar.specs.laws.Recogniser.{after_local, after_mark, after_name, statement_list, formals, some_formals, more_formals, methods}
use Rattle.grammar.specs.laws.Recogniser.{parent, classes, start_stack}
use Rattle.grammar.specs.laws.Passing.{seen, seen-kind, kinds-apart, no-keyword, no-basic-type, element-found}
use Rattle.grammar.specs.laws.Passing.{or_left, or_right, single, tests-kind, Passes, PassesOver, pushed, accept, looks, pushed-by}
use Rattle.grammar.specs.laws.Passing.{moved, binds, binds-all, binds-again, gives, tests, takes, takes-name, expects, expects-name}
use Rattle.grammar.specs.laws.Passing.{expects-element}
use Rattle.grammar.specs.laws.Parts.{Meant, parts, named-statement, named-target}

-- the symbols of a method, and of a class
abbrev a_method : List Symbol
a_method = one k_public ∷ a_type ∷ a_name ∷ one k_open ∷ formals ∷ one k_open_brace ∷ locals ∷ one k_return ∷ Symbol.operation conjunction ∷ one k_semicolon ∷ one k_close_brace ∷ []

abbrev a_class : List Symbol
a_class = one k_class ∷ a_name ∷ parent ∷ one k_open_brace ∷ fields ∷ methods ∷ one k_close_brace ∷ []

-- tests of two
no_name : (x n c : Bool) → (x || n && c) ≡ true → n ≡ false → x ≡ true
no_name true n c e e₁ = refl
no_name false true c e e₁ = sym e₁
no_name false false c e e₁ = e

module _ (ts : List Token) where
  read-type : (i : ℕ) → PassesOver ts (a_type ∷ []) i (λ t j. DerivesType ts i j t) (type_from ts i)
  unfolding type_from rule
  read-type i =
      looks a_type i (tests-kind k_fixed i _ _ _ _ (single k_fixed i a-fixed)
      (λ _. pushed (expects-element i _ λ t d. looks after_element (i + 1) (tests-kind k_open_bracket (i + 1) _ _ _ _
      (λ e₁. pushed (takes k_open_bracket e₁ (moved (i + 2) (omega arith) (expects k_close_bracket (i + 2) _ λ e₂.
      accept (simp towards_numerals (an-array d e₁ e₂))))))
      (λ _. pushed (accept (no-mark d)))))))

  read-variable : (i : ℕ) → PassesOver ts (a_type ∷ a_name ∷ []) i (λ v j. DerivesVariable ts i j v) (variable_from ts i)
  unfolding variable_from
  read-variable i = binds _ (read-type i) λ t j le d. expects-name j _ λ e. accept (a-variable d e)

  -- FIELDS

  read-fields : (f i : ℕ) → 16 * (length ts - i) < f
      → PassesOver ts (fields ∷ []) i (λ vs j. DerivesVariables ts i j vs) (variables_from f true ts i)
  unfolding variables_from begins_variable begins_type_lem rule is_name_lem
  read-fields zero i h = absurd (omega arith)
  read-fields (suc f) i h =
      looks fields i (tests (begins_type_lem (kind_at ts i) true) i _ _ _ _
      (λ e. let here = seen ts i (λ k. begins_type_lem k true) refl e in
      pushed (binds-all (a_type ∷ a_name ∷ []) _ (read-variable i) λ v j le d. expects k_semicolon j _ λ e₂. binds _ (read-fields f (j + 1) (omega arith)) λ vs n le₂ ds.
      accept (more-variables d e₂ ds)))
      (λ _. pushed (accept no-variable)))

  -- LOCALS, and the statements after them

  abbrev Locals : ℕ → List Variable → ℕ → Type 0
  Locals i vs j = DerivesVariables ts i j vs × (begins_variable false ts j ≡ false)

  module _ (f : ℕ) (next : (i : ℕ) → 16 * (length ts - i) < f → Passes ts (locals ∷ []) (locals ∷ []) i (Locals i) (variables_from f false ts i)) where
    after-local : (i : ℕ) → 16 * (length ts - i) < suc f → i < length ts → (v : Variable) (j : ℕ) → i ≤ j → DerivesVariable ts i j v
        → Passes ts (one k_semicolon ∷ locals ∷ []) (locals ∷ []) j (Locals i) (expect ts k_semicolon j λ j. bind (variables_from f false ts j) λ vs j. ok (v ∷ vs) j)
    after-local i h here v j le d =
        expects k_semicolon j _ λ e. binds-again _ (next (j + 1) (omega arith)) λ vs n le₂ ds. accept (more-variables d e ds.0, ds.1)

    typed-local : (i : ℕ) → 16 * (length ts - i) < suc f → begins_variable false ts i ≡ true → is_name_lem (kind_at ts i) ≡ false
        → Passes ts (locals ∷ []) (locals ∷ []) i (Locals i) (variables_from (suc f) false ts i)
    unfolding variables_from begins_variable begins_type_lem rule
    typed-local i h begins e =
        let x : is_basic (kind_at ts i) ≡ true = no_name _ _ _ begins e in
        rw begins (pushed-by {xs = a_type ∷ a_name ∷ one k_semicolon ∷ locals ∷ []} (rw x)
        (binds-all (a_type ∷ a_name ∷ []) _ (read-variable i) (after-local i h (seen ts i is_basic refl x))))

    -- a local whose type is a class, or an array of one
    named-local : (i : ℕ) → 16 * (length ts - i) < suc f → begins_variable false ts i ≡ true → is_name_lem (kind_at ts i) ≡ true
        → Passes ts (locals ∷ []) (locals ∷ []) i (Locals i) (variables_from (suc f) false ts i)
    unfolding variables_from variable_from type_from begins_variable begins_type_lem rule is_name_lem
    named-local i h begins e =
        let n = no-basic-type (kind_at ts i) e in
        pushed-by {xs = a_name ∷ after_local ∷ []} (rw (n.0, n.1, n.2, e))
        (takes-name e (go (is_name_lem (kind_at ts (i + 1))) refl (rw (n.0, n.1, n.2, e) at begins)))
      where
        here : i < length ts
        here = seen ts i is_name_lem refl e

        unfixed : eqb (kind_at ts i) k_fixed ≡ false
        unfixed = (no-basic-type (kind_at ts i) e).2

        go : (b : Bool) → is_name_lem (kind_at ts (i + 1)) ≡ b → (b || marked ts (i + 1)) ≡ true
            → Passes ts (after_local ∷ []) (locals ∷ []) (i + 1) (Locals i) (variables_from (suc f) false ts i)
        go true e₁ m =
            rw (begins, unfixed, element-found (a-class e), kinds-apart is_name_lem (kind_at ts (i + 1)) k_open_bracket e₁ refl, e₁)
            (pushed-by {xs = a_name ∷ one k_semicolon ∷ locals ∷ []} (rw e₁) (takes-name e₁
            (after-local i h here _ (i + 1 + 1) (omega arith) (a-variable (no-mark (a-class e)) e₁))))
        go false n m =
            let b = (and-true (eqb (kind_at ts (i + 1)) k_open_bracket) (eqb (kind_at ts (i + 1 + 1)) k_close_bracket) m).0 in
            let b₂ = (and-true (eqb (kind_at ts (i + 1)) k_open_bracket) (eqb (kind_at ts (i + 1 + 1)) k_close_bracket) m).1 in
            let e₁ = eqb-true (kind_at ts (i + 1)) k_open_bracket b in
            let e₂ = eqb-true (kind_at ts (i + 1 + 1)) k_close_bracket b₂ in
            let e₃ : kind_at ts (i + 2) ≡ k_close_bracket = simp towards_numerals at e₂ in
            rw (begins, unfixed, element-found (a-class e), e₁, e₃)
            (pushed-by {xs = one k_open_bracket ∷ after_mark ∷ []} (rw (n, b)) (takes k_open_bracket e₁
            (pushed-by {xs = one k_close_bracket ∷ a_name ∷ one k_semicolon ∷ locals ∷ []} (rw b₂) (takes k_close_bracket e₂
            (binds-all (a_name ∷ []) _ (moved (i + 2 + 1) (omega arith) (expects-name (i + 2 + 1) _ λ e₄.
            accept (a-variable (simp towards_numerals (an-array (a-class e) e₁ e₃)) e₄)))
            λ v j le d. after-local i h here v j (omega arith) d)))))

    locals-step : (i : ℕ) → 16 * (length ts - i) < suc f
        → Passes ts (locals ∷ []) (locals ∷ []) i (Locals i) (variables_from (suc f) false ts i)
    unfolding variables_from
    locals-step i h = go (begins_variable false ts i) (is_name_lem (kind_at ts i)) refl refl
      where
        go : (b n : Bool) → begins_variable false ts i ≡ b → is_name_lem (kind_at ts i) ≡ n
            → Passes ts (locals ∷ []) (locals ∷ []) i (Locals i) (variables_from (suc f) false ts i)
        go true true e e₁ = named-local i h e e₁
        go true false e e₁ = typed-local i h e e₁
        go false n e e₁ = rw e (accept (no-variable, e))

  read-locals : (f i : ℕ) → 16 * (length ts - i) < f → Passes ts (locals ∷ []) (locals ∷ []) i (Locals i) (variables_from f false ts i)
  read-locals zero i h = absurd (omega arith)
  read-locals (suc f) i h = locals-step f (λ i h. read-locals f i h) i h

  -- a body whose first statement begins with a name, from where the symbols zs are what is left of that statement
  named-body : (f i n : ℕ) (zs : List Symbol) → 16 * (length ts - i) + 1 < f → is_name_lem (kind_at ts i) ≡ true
      → ((f : ℕ) → 16 * (length ts - i) < f → PassesOver ts zs n (Meant ts Mode.a_statement i) (parse_as f ts Mode.a_statement i))
      → PassesOver ts (zs ++ (statement_list ∷ [])) n (λ ss j. Derives ts statements Kind.statement_list i j ss)
      (parse_as f ts Mode.statement_list i)
  unfolding parse_as step begins_statement_lem is_name_lem
  named-body zero i n zs h e first = absurd (omega arith)
  named-body (suc f) i n zs h e first =
      let here = seen ts i is_name_lem refl e in
      let w = no-keyword (kind_at ts i) e in
      rw (w.0, w.1, w.2, w.3, w.4, e)
      (binds-all zs _ (first f (omega arith)) λ s j le d.
      binds _ (parts ts f Mode.statement_list j (omega (arith, d.1))) λ ss n le₂ ds. accept (more-statements d.0 ds))

  read-body : (f i : ℕ) → 16 * (length ts - i) + 1 < f → begins_variable false ts i ≡ false
      → PassesOver ts (locals ∷ []) i (λ ss j. Derives ts statements Kind.statement_list i j ss) (parse_as f ts Mode.statement_list i)
  unfolding begins_variable begins_type_lem rule is_name_lem
  read-body f i h none_here = go (is_name_lem (kind_at ts i)) refl
    where
      untyped : is_basic (kind_at ts i) ≡ false
      untyped = or_left _ _ none_here

      named : is_name_lem (kind_at ts i) ≡ true → (b : Bool) → eqb (kind_at ts (i + 1)) k_open_bracket ≡ b → is_name_lem (kind_at ts (i + 1)) ≡ false
          → marked ts (i + 1) ≡ false
          → PassesOver ts (after_local ∷ []) (i + 1) (λ ss j. Derives ts statements Kind.statement_list i j ss)
          (parse_as f ts Mode.statement_list i)
      named e true b n m =
          let e₁ = eqb-true (kind_at ts (i + 1)) k_open_bracket b in
          let n₂ : eqb (kind_at ts (i + 1 + 1)) k_close_bracket ≡ false = rw b at m in
          pushed-by {xs = one k_open_bracket ∷ after_mark ∷ []} (rw (n, b)) (takes k_open_bracket e₁
          (pushed-by {xs = target_end ++ (statement_list ∷ [])} (rw n₂)
          (moved (i + 2) (omega arith) (named-body f i (i + 2) target_end h e λ f h. named-target ts f i e e₁ h))))
      named e false b n m =
          pushed-by {xs = after_name ∷ statement_list ∷ []} (rw (n, b))
          (named-body f i (i + 1) (after_name ∷ []) h e λ f h. named-statement ts f i e h)

      go : (n : Bool) → is_name_lem (kind_at ts i) ≡ n
          → PassesOver ts (locals ∷ []) i (λ ss j. Derives ts statements Kind.statement_list i j ss) (parse_as f ts Mode.statement_list i)
      go true e =
          let follows : (is_name_lem (kind_at ts (i + 1)) || marked ts (i + 1)) ≡ false = rw (untyped, e) at none_here in
          pushed-by {xs = a_name ∷ after_local ∷ []} (rw (untyped, e))
          (takes-name e (named e _ refl (or_left (is_name_lem (kind_at ts (i + 1))) _ follows) (or_right (is_name_lem (kind_at ts (i + 1))) _ follows)))
      go false e = pushed-by {xs = statement_list ∷ []} (rw (untyped, e)) (parts ts f Mode.statement_list i h)

  -- PARAMETERS, with the `)` that ends them

  read-some-formals : (f i : ℕ) → 16 * (length ts - i) < f
      → PassesOver ts (some_formals ∷ []) i (λ vs j. (e : ℕ) × DerivesParameters ts i e vs × (kind_at ts e ≡ k_close) × (j ≡ e + 1)) (some_parameters_lem f ts i)
  unfolding some_parameters_lem rule
  read-some-formals zero i h = absurd (omega arith)
  read-some-formals (suc f) i h =
      looks some_formals i (pushed (binds-all (a_type ∷ a_name ∷ []) _ (read-variable i) λ v j le d. looks more_formals j (tests-kind k_close j _ _ _ _
      (single k_close j λ e. (j, one-parameter d, e, refl))
      (λ _. pushed (expects k_comma j _ λ e. let there = seen-kind ts j k_comma refl e in
      binds _ (read-some-formals f (j + 1) (omega arith)) λ vs n le₂ a. accept (a.0, more-parameters d e a.1, a.2, a.3))))))

  read-formals : (f i : ℕ) → 16 * (length ts - i) < f
      → PassesOver ts (formals ∷ []) i (λ vs j. (e : ℕ) × DerivesFormals ts i e vs × (kind_at ts e ≡ k_close) × (j ≡ e + 1)) (parameters_from f ts i)
  unfolding parameters_from rule
  read-formals f i h =
      looks formals i (tests-kind k_close i _ _ _ _ (single k_close i λ e. (i, no-formal, e, refl))
      (λ _. pushed (gives (read-some-formals f i h) λ vs j le a. (a.0, some-formals a.1, a.2, a.3))))

  -- METHODS

  read-method : (f i : ℕ) → i < length ts → 16 * (length ts - i) < suc f
      → PassesOver ts a_method i (λ m j. DerivesMethod ts i j m × (i < j)) (method_from f ts i)
  unfolding method_from
  read-method f i here h =
      expects k_public i _ λ e. binds-all (a_type ∷ a_name ∷ []) _ (read-variable (i + 1)) λ head a le dh. expects k_open a _ λ e₁.
      binds _ (read-formals f (a + 1) (omega arith)) λ ps b le₁ dp. expects k_open_brace b _ λ e₂.
      binds-again _ (read-locals f (b + 1) (omega arith)) λ ls c le₂ dl. binds _ (read-body f c (omega arith) dl.1) λ ss d le₃ ds.
      expects k_return d _ λ e₃. binds _ (parts ts f an_expression (d + 1) (omega arith)) λ v n le₄ dv. expects k_semicolon n _ λ e₄. expects k_close_brace (n + 1) _ λ e₅.
      accept (simp towards_numerals (a-method e dh e₁ dp.1 dp.2 (rw dp.3 at e₂) (simp towards_numerals at (rw dp.3 at dl.0)) ds e₃ dv e₄ e₅), omega arith)

  read-methods : (f i : ℕ) → 16 * (length ts - i) < f
      → PassesOver ts (methods ∷ []) i (λ ms j. DerivesMethods ts i j ms) (methods_from f ts i)
  unfolding methods_from rule
  read-methods zero i h = absurd (omega arith)
  read-methods (suc f) i h =
      looks methods i (tests-kind k_public i _ _ _ _
      (λ e. let here = seen-kind ts i k_public refl e in
      pushed (binds-all a_method _ (read-method f i here h) λ m j le d. binds _ (read-methods f j (omega (arith, d.1))) λ ms n le₂ ds. accept (more-methods d.0 ds)))
      (λ _. pushed (accept no-method)))

  -- CLASSES

  read-parent : (i : ℕ) → PassesOver ts (parent ∷ []) i (λ p j. DerivesParent ts i j p) (parent_from ts i)
  unfolding parent_from rule
  read-parent i =
      looks parent i (tests-kind k_extends i _ _ _ _
      (λ e. pushed (takes k_extends e (expects-name (i + 1) _ λ e₁. accept (simp towards_numerals (a-parent e e₁)))))
      (λ _. pushed (accept no-parent)))

  read-class : (f i : ℕ) → i < length ts → 16 * (length ts - i) < suc f
      → PassesOver ts a_class i (λ c j. DerivesClass ts i j c × (i < j)) (class_from f ts i)
  unfolding class_from
  read-class f i here h =
      expects k_class i _ λ e. expects-name (i + 1) _ λ e₁. binds _ (read-parent (i + 1 + 1)) λ p a le dp. expects k_open_brace a _ λ e₂.
      binds _ (read-fields f (a + 1) (omega arith)) λ fs b le₂ df. binds _ (read-methods f b (omega arith)) λ ms c le₃ dm. expects k_close_brace c _ λ e₃.
      accept (a-class-declaration e e₁ (simp towards_numerals at dp) e₂ df dm e₃, omega arith)

  pub read-classes : (f i : ℕ) → 16 * (length ts - i) < f
      → PassesOver ts (classes ∷ []) i (λ cs j. DerivesClasses ts i j cs × (kind_at ts j ≡ k_end)) (classes_from f ts i)
  unfolding classes_from rule
  read-classes zero i h = absurd (omega arith)
  read-classes (suc f) i h =
      looks classes i (tests-kind k_end i _ _ _ _ (λ e. pushed (accept (no-class, e)))
      (λ n. let here = seen ts i (λ k. not (eqb k k_end)) refl (rw n) in
      pushed (binds-all a_class _ (read-class f i here h) λ c j le d. binds _ (read-classes f j (omega (arith, d.1))) λ cs n le₂ ds. accept (more-classes d.0 ds.0, ds.1))))

  -- THE PROGRAM

  pub read-program : PassesOver ts start_stack 0 (λ p j. (kind_at ts j ≡ k_end) × (j ≡ length ts → DerivesProgram ts p)) (parse ts)
  unfolding parse program_from
  read-program =
      expects k_class 0 _ λ e0. expects-name 1 _ λ e1. expects k_open_brace 2 _ λ e2. expects k_public 3 _ λ e3. expects k_static 4 _ λ e4. expects k_void 5 _ λ e5. expects k_main 6 _ λ e6.
      expects k_open 7 _ λ e7. expects k_string 8 _ λ e8. expects k_open_bracket 9 _ λ e9. expects k_close_bracket 10 _ λ e10. expects-name 11 _ λ e11. expects k_close 12 _ λ e12.
      expects k_open_brace 13 _ λ e13. binds _ (parts ts _ Mode.a_statement 14 (omega arith)) λ s j le d. expects k_close_brace j _ λ e₁. expects k_close_brace (j + 1) _ λ e₂.
      binds _ (read-classes _ (j + 1 + 1) (omega arith)) λ cs n le₂ ds.
      accept (
        ds.1,
        λ all. a_program (record { at0 = e0; at1 = e1; at2 = e2; at3 = e3; at4 = e4; at5 = e5; at6 = e6; at7 = e7; at8 = e8; at9 = e9; at10 = e10; at11 = e11; at12 = e12; at13 = e13 })
            d.0 e₁ e₂ (rw all at (simp towards_numerals at ds.0)),
      )
