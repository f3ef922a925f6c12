-- What the grammar derives the parsing function finds, where no token that could go on follows, or it runs out of fuel. By induction on
-- derivations; a form that begins with a smaller form of its own class is found when the parser of what follows finds the rest.
use Prim.Native.Nat.{ℕ, zero, suc, ◌+◌}
use Rattle.std.specs.Prelude.{◌≡◌, List, Bool, ◌&&◌, ◌||◌, eqb}
use Rattle.std.proofs.Math.Path.{refl, ap}
use Rattle.std.proofs.Common.{◌∙◌, arith, eqb-true}
use Rattle.std.proofs.Math.Bool.{true, false}
use Rattle.std.proofs.Math.Option.{Option, none, some}
use Rattle.std.proofs.Math.Numerals.{towards_numerals}
use Rattle.std.proofs.Math.ListN.{length, get_or-eq_default}
use Rattle.base.specs.Choice.{if◌then◌otherwise◌, option}
use Rattle.lexer.specs.Tokens.{Token}
use Rattle.lexer.specs.Kinds.{k_end, k_literal, k_class, k_false, k_length, k_new, k_public, k_return, k_this, k_true, k_and, k_less, k_plus, k_minus}
use Rattle.lexer.specs.Kinds.{k_times, k_port, k_fixed_literal}
use Rattle.lexer.specs.Kinds.{k_not, k_dot, k_open, k_close, k_open_bracket, k_close_bracket, k_open_brace, k_close_brace, is_name_lem}
use Rattle.parser.specs.Tree.{Name, Operator, Sort, Sort.statements, Part, Expression, TypeUse, Variable, Method, Class, Program}
use Rattle.parser.specs.Stream.{no_more, kind_at, Level, Level.conjunction, Level.comparison, Level.sum, Level.product, operator_of}
use Rattle.parser.specs.Parse.{Parsed, ok, out, bind, Mode, operand, an_expression, begins_statement_lem, step, parse_as}
use Rattle.parser.specs.Parse.{type_from, begins_type_lem, variable_from, marked, begins_variable, variables_from}
use Rattle.parser.specs.Parse.{some_parameters_lem, parameters_from, method_from, methods_from, parent_from, class_from, classes_from, program_from}
use Rattle.parser.specs.Parse.{parse}
use Rattle.parser.specs.Grammar as Grammar
use Rattle.parser.specs.Grammar.{Kind, Derives, operate, one-operand, negate, no-negation, make-array, no-array, index, take-length, invoke}
use Rattle.parser.specs.Grammar.{no-suffix, a-literal, a-true, a-false, a-name, a-this, make-object, get-register, parentheses}
use Rattle.parser.specs.Grammar.{none-given, some-given, one_argument, more-arguments, a_block, an-if, a-while, a-print, an-assignment}
use Rattle.parser.specs.Grammar.{an-element-assignment, put-register, no-statement, more-statements, a-fixed-literal, a-fixed}
use Rattle.parser.specs.Grammar.{DerivesType, an-array, no-mark, DerivesVariable, a-variable, DerivesVariables, no-variable, more-variables}
use Rattle.parser.specs.Grammar.{DerivesParameters, one-parameter, more-parameters, DerivesFormals, no-formal, some-formals, DerivesMethod}
use Rattle.parser.specs.Grammar.{a-method, DerivesMethods, no-method, more-methods}
use Rattle.parser.specs.Grammar.{DerivesParent, no-parent, a-parent, DerivesClass, a-class-declaration, DerivesClasses, no-class}
use Rattle.parser.specs.Grammar.{more-classes, DerivesProgram, a_program}
use Rattle.grammar.specs.laws.Passing.{kinds-apart, no-keyword, no-basic-type, element-found, element-begins, element-not-fixed}
use Rattle.grammar.specs.laws.Passing.{is_operator_of, or_left, or_right}

-- the answer is a, up to token j, or the fuel was used up
pub data Gives {A : Type 0} (a : A) (j : ℕ) : Parsed A → Type 0 where
  given : Gives a j (ok a j)
  spent : Gives a j out

after : {A B : Type 0} {a : A} {b : B} {j n : ℕ} {r : Parsed A} (g : A → ℕ → Parsed B) → Gives a j r → Gives b n (g a j)
    → Gives b n (bind r g)
after g given h = h
after g spent h = spent

-- WHAT A FORM BEGINS WITH

starts_primary : ℕ → Bool
starts_primary k =
    is_name_lem k || eqb k k_literal || eqb k k_true || eqb k k_false || eqb k k_this || eqb k k_new || eqb k k_open || eqb k k_port
    || eqb k k_fixed_literal

starts_unary : ℕ → Bool
starts_unary k = starts_primary k || eqb k k_not

-- `new T[`, or `new` and a type that is no class
abbrev makes_array : List Token → ℕ → Bool
makes_array ts i = eqb (kind_at ts i) k_new && begins_type_lem (kind_at ts (i + 1)) (eqb (kind_at ts (i + 2)) k_open_bracket)

-- what a derivation of each class from token i on begins with: a primary not with what makes an array, a statement not with what begins a
-- local
abbrev First : List Token → {s : Sort} → Kind s → ℕ → Type 0
First ts (Kind.operation L) i = starts_unary (kind_at ts i) ≡ true
First ts Kind.unary i = starts_unary (kind_at ts i) ≡ true
First ts Kind.postfix i = starts_primary (kind_at ts i) ≡ true
First ts Kind.indexable i = starts_primary (kind_at ts i) ≡ true
First ts Kind.primary i = (starts_primary (kind_at ts i) ≡ true) × (makes_array ts i ≡ false)
First ts Kind.argument_list i = Unit {0}
First ts Kind.some_arguments_lem i = starts_unary (kind_at ts i) ≡ true
First ts Kind.a_statement i = (begins_statement_lem (kind_at ts i) ≡ true) × (begins_variable false ts i ≡ false)
First ts Kind.statement_list i = Unit {0}

first-operand : (ts : List Token) (L : Level) (i : ℕ) → First ts (Grammar.operand L) i → starts_unary (kind_at ts i) ≡ true
first-operand ts conjunction i h = h
first-operand ts comparison i h = h
first-operand ts sum i h = h
first-operand ts product i h = h

-- an assignment begins with a name that neither a name nor `[]` follows
first-named : (ts : List Token) (i : ℕ) → is_name_lem (kind_at ts i) ≡ true → (is_name_lem (kind_at ts (i + 1)) || marked ts (i + 1)) ≡ false
    → First ts Kind.a_statement i
unfolding begins_statement_lem begins_variable begins_type_lem is_name_lem
first-named ts i e n =
    let m = no-keyword (kind_at ts i) e in
    let l = no-basic-type (kind_at ts i) e in
    (rw (m.0, m.1, m.2, m.3, m.4, e), rw (l.0, l.1, l.2, e, n))

first : {ts : List Token} {s : Sort} {c : Kind s} {i j : ℕ} {t : Part s} → Derives ts s c i j t → First ts c i
unfolding starts_primary starts_unary begins_statement_lem begins_variable begins_type_lem is_name_lem
first (operate l e r) = first l
first {ts} (one-operand {L = L} {i = i} d) = first-operand ts L i (first d)
first (negate e d) = rw e
first (no-negation d) = rw (first d)
first (make-array e e₁ e₂ d e₃) = rw e
first (no-array d) = first d
first (index a e d e₁) = first a
first (take-length a e e₁) = first a
first (invoke x e e₁ e₂ d e₃) = first x
first (no-suffix d) = (first d).0
first (a-literal e) = (rw e, rw e)
first (a-fixed-literal e) = (rw e, rw e)
first (a-true e) = (rw e, rw e)
first (a-false e) = (rw e, rw e)
first {ts} (a-name {i = i} e) = (rw e, rw (kinds-apart is_name_lem (kind_at ts i) k_new e refl))
first (a-this e) = (rw e, rw e)
first {ts} (make-object {i = i} e e₁ e₂ e₃) = let n = no-basic-type (kind_at ts (i + 1)) e₁ in (rw e, rw (e, n.0, n.1, n.2, e₁, e₂))
first (get-register e e₁ e₂ e₃ d e₄) = (rw e, rw e)
first (parentheses e d e₁) = (rw e, rw e)
first none-given = tt
first (some-given d) = tt
first (one_argument d) = first d
first (more-arguments d e ds) = first d
first (a_block e d e₁) = (rw e, rw e)
first (an-if e e₁ d e₂ d₁ e₃ d₂) = (rw e, rw e)
first (a-while e e₁ d e₂ d₁) = (rw e, rw e)
first (a-print e e₁ e₂ e₃ e₄ e₅ d e₆ e₇) = (rw e, rw e)
first {ts} (an-assignment {i = i} e e₁ d e₂) = first-named ts i e (rw e₁)
first {ts} (an-element-assignment {i = i} e e₁ d e₂ e₃ d₁ e₄) =
    let n = kinds-apart starts_unary (kind_at ts (i + 2)) k_close_bracket (first d) refl in
    let n₂ : eqb (kind_at ts (i + 1 + 1)) k_close_bracket ≡ false = simp towards_numerals n in
    first-named ts i e (rw (e₁, n₂))
first (put-register e e₁ e₂ e₃ d e₄ d₁ e₅ e₆) = (rw e, rw e)
first no-statement = tt
first (more-statements d ds) = tt

-- WHAT ENDS A FORM

-- a token of kind k goes on with an operand of this level
abbrev going_on : Level → ℕ → Bool
going_on product k = eqb k k_open_bracket || eqb k k_dot
going_on sum k = eqb k k_open_bracket || eqb k k_dot || is_operator_of product k
going_on comparison k = eqb k k_open_bracket || eqb k k_dot || is_operator_of product k || is_operator_of sum k
going_on conjunction k = eqb k k_open_bracket || eqb k k_dot || is_operator_of product k || is_operator_of sum k || is_operator_of comparison k

-- or with an expression
abbrev extends : ℕ → Bool
extends k = going_on conjunction k || is_operator_of conjunction k

-- an operator ends its left operand
is-chosen : (b : Bool) (x : Operator) {o : Operator} → (if b then (λ _. some x) otherwise λ _. none) ≡ some o → b ≡ true
is-chosen true x e = refl
is-chosen false x e = let z : ◌≡◌ {A = ℕ} 0 1 = cc in absurd (omega arith)

halts_at : (L : Level) (k q : ℕ) → eqb k q ≡ true → going_on L q ≡ false → going_on L k ≡ false
halts_at L k q e h = ap (λ (k : ℕ). going_on L k) (eqb-true k q e) ∙ h

operator-halts : (L : Level) (k : ℕ) {o : Operator} → operator_of L k ≡ some o → going_on L k ≡ false
unfolding operator_of
operator-halts conjunction k e = halts_at conjunction k k_and (is-chosen (eqb k k_and) Operator.and e) refl
operator-halts comparison k e = halts_at comparison k k_less (is-chosen (eqb k k_less) Operator.less e) refl
operator-halts sum k {o} e = go (eqb k k_plus) refl e
  where
    go : (b : Bool) → eqb k k_plus ≡ b
        → (if b then (λ _. some Operator.plus) otherwise λ _. if eqb k k_minus then (λ _. some Operator.minus) otherwise λ _. none) ≡ some o
        → going_on sum k ≡ false
    go true p e = halts_at sum k k_plus p refl
    go false p e = halts_at sum k k_minus (is-chosen (eqb k k_minus) Operator.minus e) refl
operator-halts product k e = halts_at product k k_times (is-chosen (eqb k k_times) Operator.times e) refl

not_some : (o : Option Operator) → option o false (λ o. true) ≡ false → o ≡ none
not_some none e = refl
not_some (some o) e = let z : ◌≡◌ {A = ℕ} 0 1 = cc in absurd (omega arith)

-- WHAT IS FOUND

module _ (ts : List Token) where
  -- what a derivation makes the parser answer
  abbrev Found : {s : Sort} → Kind s → ℕ → ℕ → Part s → Type 0
  Found (Kind.operation L) i j l = going_on L (kind_at ts j) ≡ false → (t : Expression) (n : ℕ) → ((f : ℕ) → Gives t n (parse_as f ts (Mode.operations L i l) j)) → (f : ℕ) → Gives t n (parse_as f ts (Mode.operation L) i)
  Found Kind.unary i j t = going_on product (kind_at ts j) ≡ false → (f : ℕ) → Gives t j (parse_as f ts Mode.unary i)
  Found Kind.postfix i j l = eqb (kind_at ts j) k_open_bracket ≡ false → (t : Expression) (n : ℕ) → ((b : Bool) (f : ℕ) → Gives t n (parse_as f ts (Mode.suffixes b i l) j)) → (f : ℕ) → Gives t n (parse_as f ts Mode.postfix i)
  Found Kind.indexable i j l = (t : Expression) (n : ℕ) → ((f : ℕ) → Gives t n (parse_as f ts (Mode.suffixes true i l) j)) → (f : ℕ) → Gives t n (parse_as f ts Mode.postfix i)
  Found Kind.primary i j t = (f : ℕ) → Gives t j (parse_as f ts Mode.primary i)
  Found Kind.argument_list i j t = kind_at ts j ≡ k_close → (f : ℕ) → Gives t (j + 1) (parse_as f ts Mode.argument_list i)
  Found Kind.some_arguments_lem i j t = kind_at ts j ≡ k_close → (f : ℕ) → Gives t (j + 1) (parse_as f ts Mode.some_arguments_lem i)
  Found Kind.a_statement i j t = (f : ℕ) → Gives t j (parse_as f ts Mode.a_statement i)
  Found Kind.statement_list i j t = begins_statement_lem (kind_at ts j) ≡ false → (f : ℕ) → Gives t j (parse_as f ts Mode.statement_list i)

  -- one step
  unroll : {s : Sort} {t : Part s} {j : ℕ} (m : Mode s) (i : ℕ) → ((f : ℕ) → Gives t j (step ts (λ s m j. parse_as f ts m j) m i))
      → (f : ℕ) → Gives t j (parse_as f ts m i)
  unfolding parse_as
  unroll m i h zero = spent
  unroll m i h (suc f) = h f

  -- no operator, no suffix follows
  no-operator : (L : Level) (start : ℕ) (l : Expression) (j : ℕ) → is_operator_of L (kind_at ts j) ≡ false → (f : ℕ)
      → Gives l j (parse_as f ts (Mode.operations L start l) j)
  unfolding step
  no-operator L start l j e = unroll (Mode.operations L start l) j λ f. rw (not_some (operator_of L (kind_at ts j)) e) given

  no-more-suffixes : (b : Bool) (start : ℕ) (l : Expression) (j : ℕ) → going_on product (kind_at ts j) ≡ false → (f : ℕ)
      → Gives l j (parse_as f ts (Mode.suffixes b start l) j)
  unfolding step
  no-more-suffixes b start l j h =
      let k = kind_at ts j in
      unroll (Mode.suffixes b start l) j λ f. rw (or_left (eqb k k_open_bracket) (eqb k k_dot) h, or_right (eqb k k_open_bracket) (eqb k k_dot) h) given

  -- a whole operation, a whole operand and a whole expression
  found-operation : (L : Level) (i j : ℕ) (t : Expression) → Found (Kind.operation L) i j t
      → (going_on L (kind_at ts j) || is_operator_of L (kind_at ts j)) ≡ false
      → (f : ℕ) → Gives t j (parse_as f ts (Mode.operation L) i)
  found-operation L i j t d h f =
      let k = kind_at ts j in
      d (or_left (going_on L k) (is_operator_of L k) h) t j (no-operator L i t j (or_right (going_on L k) (is_operator_of L k) h)) f

  found-operand : (L : Level) (i j : ℕ) (t : Expression) → Found (Grammar.operand L) i j t → going_on L (kind_at ts j) ≡ false → (f : ℕ)
      → Gives t j (parse_as f ts (operand L) i)
  found-operand conjunction i j t d h f = found-operation comparison i j t d h f
  found-operand comparison i j t d h f = found-operation sum i j t d h f
  found-operand sum i j t d h f = found-operation product i j t d h f
  found-operand product i j t d h f = d h f

  found-whole : (i j : ℕ) (t : Expression) {q : ℕ} → Found Grammar.an_expression i j t → kind_at ts j ≡ q → extends q ≡ false → (f : ℕ)
      → Gives t j (parse_as f ts an_expression i)
  found-whole i j t d e n f = found-operation conjunction i j t d (ap extends e ∙ n) f

  found : {s : Sort} {c : Kind s} {i j : ℕ} {t : Part s} → Derives ts s c i j t → Found c i j t
  unfolding step begins_type_lem operator_of starts_primary starts_unary begins_statement_lem is_name_lem
  found (operate {L = L} {i = i} {m = m} {j = j} {o = o} {l = l} {r = r} dl e dr) =
      λ h t n k. found dl (operator-halts L (kind_at ts m) e) t n (unroll (Mode.operations L i l) m λ f. rw e (after _ (found-operand L (m + 1) j r (found dr) h f) (k f)))
  found (one-operand {L = L} {i = i} {j = j} {e = x} d) = λ h t n k. unroll (Mode.operation L) i λ f. after _ (found-operand L i j x (found d) h f) (k f)
  found (negate {i = i} e d) = λ h. unroll Mode.unary i λ f. rw e (after _ (found d h f) given)
  found (no-negation {i = i} {j = j} {e = x} d) =
      λ h. unroll Mode.unary i λ f. rw (kinds-apart starts_primary (kind_at ts i) k_not (first d) refl) (found d (or_left _ _ h) x j (λ b. no-more-suffixes b i x j h) f)
  found (make-array {i = i} {j = j} {e = x} e de e₁ d e₂) =
      λ h t n k. unroll Mode.postfix i λ f. rw (e, e₁, element-begins de, element-found de)
      (simp towards_numerals (after _ (found-whole (i + 3) j x (found d) e₂ refl f) (rw e₂ (k false f))))
  found (no-array d) = λ h t n k. found d t n (k true)
  found (index {i = i} {m = m} {j = j} {a = a} {e = x} da e d e₁) =
      λ t n k. found da t n (unroll (Mode.suffixes true i a) m λ f. rw e (after _ (found-whole (m + 1) j x (found d) e₁ refl f) (rw e₁ (k f))))
  found (take-length {i = i} {m = m} {a = a} da e e₁) = λ t n k. found da (rw e) t n λ b. unroll (Mode.suffixes b i a) m λ f. rw (e, e₁) (k f)
  found (invoke {i = i} {m = m} {j = j} {e = x} dx e e₁ e₂ d e₃) =
      λ t n k. found dx (rw e) t n λ b. unroll (Mode.suffixes b i x) m λ f.
      rw (e, kinds-apart is_name_lem (kind_at ts (m + 1)) k_length e₁ refl, e₁) (simp towards_numerals (rw e₂ (after _ (found d e₃ f) (k f))))
  found (no-suffix {i = i} d) = λ t n k. unroll Mode.postfix i λ f. rw (first d).1 (after _ (found d f) (k f))
  found (a-literal {i = i} e) = unroll Mode.primary i λ f. rw e given
  found (a-fixed-literal {i = i} e) = unroll Mode.primary i λ f. rw e given
  found (a-true {i = i} e) = unroll Mode.primary i λ f. rw e given
  found (a-false {i = i} e) = unroll Mode.primary i λ f. rw e given
  found (a-name {i = i} e) =
      let k = kind_at ts i in
      unroll Mode.primary i λ f. rw (
        kinds-apart is_name_lem k k_literal e refl,
        kinds-apart is_name_lem k k_fixed_literal e refl,
        kinds-apart is_name_lem k k_true e refl,
        kinds-apart is_name_lem k k_false e refl,
        e,
      ) given
  found (a-this {i = i} e) = unroll Mode.primary i λ f. rw e given
  found (make-object {i = i} e e₁ e₂ e₃) = unroll Mode.primary i λ f. rw (e, e₁) (simp towards_numerals (rw (e₂, e₃) given))
  found (get-register {i = i} {j = j} {e = x} e e₁ e₂ e₃ d e₄) =
      unroll Mode.primary i λ f. rw (e, e₁) (simp towards_numerals (rw (e₂, e₃) (after _ (found-whole (i + 4) j x (found d) e₄ refl f) (rw e₄ given))))
  found (parentheses {i = i} {j = j} {e = x} e d e₁) =
      unroll Mode.primary i λ f. rw e (after _ (found-whole (i + 1) j x (found d) e₁ refl f) (rw e₁ given))
  found (none-given {i = i}) = λ e. unroll Mode.argument_list i λ f. rw e given
  found (some-given {i = i} d) = λ e. unroll Mode.argument_list i λ f. rw (kinds-apart starts_unary (kind_at ts i) k_close (first d) refl) (found d e f)
  found (one_argument {i = i} {j = j} {e = x} d) = λ e. unroll Mode.some_arguments_lem i λ f. after _ (found-whole i j x (found d) e refl f) (rw e given)
  found (more-arguments {i = i} {m = m} {e = x} d e ds) =
      λ e₁. unroll Mode.some_arguments_lem i λ f. after _ (found-whole i m x (found d) e refl f) (rw e (after _ (found ds e₁ f) given))
  found (a_block {i = i} e d e₁) = unroll Mode.a_statement i λ f. rw e (after _ (found d (rw e₁) f) (rw e₁ given))
  found (an-if {i = i} {j = j} {e = x} e e₁ d e₂ d₁ e₃ d₂) =
      unroll Mode.a_statement i λ f. rw (e, e₁) (simp towards_numerals (after _ (found-whole (i + 2) j x (found d) e₂ refl f) (rw e₂ (after _ (found d₁ f) (rw e₃ (after _ (found d₂ f) given))))))
  found (a-while {i = i} {j = j} {e = x} e e₁ d e₂ d₁) =
      unroll Mode.a_statement i λ f. rw (e, e₁) (simp towards_numerals (after _ (found-whole (i + 2) j x (found d) e₂ refl f) (rw e₂ (after _ (found d₁ f) given))))
  found (a-print {i = i} {j = j} {e = x} e e₁ e₂ e₃ e₄ e₅ d e₆ e₇) =
      unroll Mode.a_statement i λ f. rw (e, e₁) (simp towards_numerals (rw (e₂, e₃, e₄, e₅) (after _ (found-whole (i + 6) j x (found d) e₆ refl f) (rw (e₆, e₇) given))))
  found (an-assignment {i = i} {j = j} {e = x} e e₁ d e₂) =
      let w = no-keyword (kind_at ts i) e in
      unroll Mode.a_statement i λ f. rw (w.0, w.1, w.2, w.3, w.4, e, e₁)
      (simp towards_numerals (after _ (found-whole (i + 2) j x (found d) e₂ refl f) (rw e₂ given)))
  found (an-element-assignment {i = i} {j = j} {k = n} {n = x} {e = y} e e₁ d e₂ e₃ d₁ e₄) =
      let w = no-keyword (kind_at ts i) e in
      unroll Mode.a_statement i λ f. rw (w.0, w.1, w.2, w.3, w.4, e, e₁)
      (after _ (found-whole (i + 2) j x (found d) e₂ refl f) (rw (e₂, e₃) (simp towards_numerals (after _ (found-whole (j + 2) n y (found d₁) e₄ refl f) (rw e₄ given)))))
  found (put-register {i = i} {j = j} {k = n} {n = x} {e = y} e e₁ e₂ e₃ d e₄ d₁ e₅ e₆) =
      unroll Mode.a_statement i λ f. rw (e, e₁) (simp towards_numerals (rw (e₂, e₃) (after _ (found-whole (i + 4) j x (found d) e₄ refl f)
      (rw e₄ (after _ (found-whole (j + 1) n y (found d₁) e₅ refl f) (rw (e₅, e₆) given))))))
  found (no-statement {i = i}) = λ h. unroll Mode.statement_list i λ f. rw h given
  found (more-statements {i = i} d ds) = λ h. unroll Mode.statement_list i λ f. rw (first d).0 (after _ (found d f) (after _ (found ds h f) given))

  -- a statement is found whatever follows it
  pub found-statement : {i j : ℕ} {t : Part Sort.statement} → Derives ts Sort.statement Kind.a_statement i j t → (f : ℕ)
      → Gives t j (parse_as f ts Mode.a_statement i)
  found-statement d = found d

  -- DECLARATIONS

  found_type : {i j : ℕ} {t : TypeUse} → DerivesType ts i j t → is_name_lem (kind_at ts j) ≡ true → type_from ts i ≡ ok t j
  unfolding type_from is_name_lem
  found_type (an-array d e e₁) n = rw (element-not-fixed d, element-found d, e, e₁) (simp towards_numerals)
  found_type (no-mark {i = i} d) n = rw (element-not-fixed d, element-found d, kinds-apart is_name_lem (kind_at ts (i + 1)) k_open_bracket n refl)
  found_type (a-fixed e) n = rw e

  found-variable : {i j : ℕ} {v : Variable} → DerivesVariable ts i j v → variable_from ts i ≡ ok v j
  unfolding variable_from
  found-variable (a-variable d e) = rw (found_type d e, e)

  -- what begins a variable, in a class and in a body
  type-begins : {i j : ℕ} {t : TypeUse} → DerivesType ts i j t → is_name_lem (kind_at ts j) ≡ true → (inClass : Bool)
      → begins_variable inClass ts i ≡ true
  unfolding begins_variable begins_type_lem is_name_lem
  type-begins (an-array d e e₁) n true = element-begins d
  type-begins (an-array {i = i} d e e₁) n false =
      let e₂ : kind_at ts (i + 1 + 1) ≡ k_close_bracket = simp towards_numerals e₁ in rw (e, e₂) (element-begins d)
  type-begins (no-mark d) n true = element-begins d
  type-begins (no-mark d) n false = rw n (element-begins d)
  type-begins (a-fixed e) n true = rw e
  type-begins (a-fixed e) n false = rw e

  variable-begins : {i j : ℕ} {v : Variable} → DerivesVariable ts i j v → (inClass : Bool) → begins_variable inClass ts i ≡ true
  variable-begins (a-variable d e) b = type-begins d e b

  found-variables : {i j : ℕ} {vs : List Variable} → DerivesVariables ts i j vs → (inClass : Bool) → begins_variable inClass ts j ≡ false
      → (f : ℕ) → Gives vs j (variables_from f inClass ts i)
  unfolding variables_from
  found-variables no-variable b n zero = spent
  found-variables no-variable b n (suc f) = rw n given
  found-variables (more-variables d e ds) b n zero = spent
  found-variables (more-variables d e ds) b n (suc f) = rw (variable-begins d b, found-variable d, e) (after _ (found-variables ds b n f) given)

  found-parameters : {i j : ℕ} {vs : List Variable} → DerivesParameters ts i j vs → kind_at ts j ≡ k_close → (f : ℕ)
      → Gives vs (j + 1) (some_parameters_lem f ts i)
  unfolding some_parameters_lem
  found-parameters (one-parameter d) e zero = spent
  found-parameters (one-parameter d) e (suc f) = rw (found-variable d, e) given
  found-parameters (more-parameters d e ds) e₁ zero = spent
  found-parameters (more-parameters d e ds) e₁ (suc f) = rw (found-variable d, e) (after _ (found-parameters ds e₁ f) given)

  -- a parameter does not begin with `)`
  type-opens : {i j : ℕ} {t : TypeUse} → DerivesType ts i j t → eqb (kind_at ts i) k_close ≡ false
  unfolding begins_type_lem is_name_lem
  type-opens (an-array {i = i} d e e₁) = kinds-apart (λ k. begins_type_lem k true) (kind_at ts i) k_close (element-begins d) refl
  type-opens (no-mark {i = i} d) = kinds-apart (λ k. begins_type_lem k true) (kind_at ts i) k_close (element-begins d) refl
  type-opens (a-fixed e) = rw e

  variable-opens : {i j : ℕ} {v : Variable} → DerivesVariable ts i j v → eqb (kind_at ts i) k_close ≡ false
  variable-opens (a-variable d e) = type-opens d

  parameters-open : {i j : ℕ} {vs : List Variable} → DerivesParameters ts i j vs → eqb (kind_at ts i) k_close ≡ false
  parameters-open (one-parameter d) = variable-opens d
  parameters-open (more-parameters d e ds) = variable-opens d

  found-formals : {i j : ℕ} {vs : List Variable} → DerivesFormals ts i j vs → kind_at ts j ≡ k_close → (f : ℕ)
      → Gives vs (j + 1) (parameters_from f ts i)
  unfolding parameters_from
  found-formals no-formal e f = rw e given
  found-formals (some-formals d) e f = rw (parameters-open d) (found-parameters d e f)

  -- no local begins where the statements do
  body-begins : {c : Kind statements} {i j : ℕ} {ss : Part statements} → Derives ts statements c i j ss → kind_at ts j ≡ k_return
      → begins_variable false ts i ≡ false
  unfolding begins_variable begins_type_lem is_name_lem
  body-begins no-statement e = rw e
  body-begins (more-statements d ds) e = (first d).1

  found-method : {i j : ℕ} {m : Method} → DerivesMethod ts i j m → (f : ℕ) → Gives m j (method_from f ts i)
  unfolding method_from operator_of begins_statement_lem is_name_lem
  found-method (a-method {e = n} {v = v} e dh e₁ dp e₂ e₃ dl ds e₄ dv e₅ e₆) f =
      rw (e, found-variable dh, e₁) (after _ (found-formals dp e₂ f) (rw e₃ (simp towards_numerals (after _ (found-variables dl false (body-begins ds e₄) f)
      (after _ (found ds (rw e₄) f) (rw e₄ (after _ (found-whole _ n v (found dv) e₅ refl f) (rw (e₅, e₆) given))))))))

  method-begins : {i j : ℕ} {m : Method} → DerivesMethod ts i j m → kind_at ts i ≡ k_public
  method-begins (a-method e dh e₁ dp e₂ e₃ dl ds e₄ dv e₅ e₆) = e

  found-methods : {i j : ℕ} {ms : List Method} → DerivesMethods ts i j ms → kind_at ts j ≡ k_close_brace → (f : ℕ)
      → Gives ms j (methods_from f ts i)
  unfolding methods_from
  found-methods no-method e zero = spent
  found-methods no-method e (suc f) = rw e given
  found-methods (more-methods d ds) e zero = spent
  found-methods (more-methods d ds) e (suc f) = rw (method-begins d) (after _ (found-method d f) (after _ (found-methods ds e f) given))

  -- no field begins where the methods do
  methods-begin : {i j : ℕ} {ms : List Method} → DerivesMethods ts i j ms → kind_at ts j ≡ k_close_brace → begins_variable true ts i ≡ false
  unfolding begins_variable begins_type_lem is_name_lem
  methods-begin no-method e = rw e
  methods-begin (more-methods d ds) e = rw (method-begins d)

  found-parent : {i j : ℕ} {p : Option Name} → DerivesParent ts i j p → kind_at ts j ≡ k_open_brace → parent_from ts i ≡ ok p j
  unfolding parent_from
  found-parent no-parent e = rw e
  found-parent (a-parent e e₁) e₂ = rw (e, e₁) (simp towards_numerals)

  pub found-class : {i j : ℕ} {c : Class} → DerivesClass ts i j c → (f : ℕ) → Gives c j (class_from f ts i)
  unfolding class_from
  found-class (a-class-declaration e e₁ dp e₂ df dm e₃) f =
      rw (e, e₁) (simp towards_numerals (rw (found-parent dp e₂, e₂) (after _ (found-variables df true (methods-begin dm e₃) f) (after _ (found-methods dm e₃ f) (rw e₃ given)))))

  pub class-begins : {i j : ℕ} {c : Class} → DerivesClass ts i j c → kind_at ts i ≡ k_class
  class-begins (a-class-declaration e e₁ dp e₂ df dm e₃) = e

  pub found-classes : {i j : ℕ} {cs : List Class} → DerivesClasses ts i j cs → kind_at ts j ≡ k_end → (f : ℕ) → Gives cs j (classes_from f ts i)
  unfolding classes_from
  found-classes no-class e zero = spent
  found-classes no-class e (suc f) = rw e given
  found-classes (more-classes d ds) e zero = spent
  found-classes (more-classes d ds) e (suc f) = rw (class-begins d) (after _ (found-class d f) (after _ (found-classes ds e f) given))

  pub found-program : {p : Program} → DerivesProgram ts p → Gives p (length ts) (parse ts)
  unfolding parse program_from
  found-program (a_program h d e e₁ ds) =
      let past : kind_at ts (length ts) ≡ k_end = ap (λ (t : Token). t.kind) (get_or-eq_default ts no_more {n = length ts} (omega arith)) in
      rw (h.at0, h.at1, h.at2, h.at3, h.at4, h.at5, h.at6, h.at7, h.at8, h.at9, h.at10, h.at11, h.at12, h.at13)
      (after _ (found d _) (rw (e, e₁) (simp towards_numerals (after _ (found-classes ds past _) given))))
