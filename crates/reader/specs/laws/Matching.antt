-- What the grammar derives matches its tokens: each rule says of which kind the tokens that it names are, and none of these is the kind
-- past the last token, so that they are there.
use Rattle.std.specs.Prelude.{ℕ, ◌+◌, ◌≡◌, List, Bool, true, false, eqb}
use Rattle.std.proofs.Math.Path.{refl}
use Rattle.std.proofs.Common.{ap, ◌∙◌, eqb-true}
use Rattle.std.proofs.Math.Option.{Option, none, some}
use native.Mathlib.Omega.{arith}
use Rattle.std.proofs.lemmas.Bool.{eqb-false}
use Rattle.base.specs.Choice.{if◌then◌otherwise◌}
use Rattle.lexer.specs.Kinds.{k_end, k_and, k_less, k_plus, k_minus, k_times, k_open_bracket, is_name_lem}
use Rattle.lexer.specs.Tokens.{Token}
use Rattle.parser.specs.Tree.{Operator, Operator.and, Operator.less, Operator.plus, Operator.minus, Operator.times, Element, Sort, Part}
use Rattle.parser.specs.Tree.{Variable, Method, Class, Program, Name}
use Rattle.parser.specs.Stream.{token_at, kind_at, name_at, Level, Level.conjunction, Level.comparison, Level.sum, Level.product, operator_of}
use Rattle.parser.specs.Grammar.{Kind, Derives, DerivesVariable, DerivesVariables, DerivesParameters, DerivesFormals, DerivesMethod}
use Rattle.parser.specs.Grammar.{DerivesMethods, DerivesParent, DerivesClass, DerivesClasses, DerivesProgram}
use Rattle.parser.specs.Grammar.{Derives.operate, Derives.one-operand, Derives.negate, Derives.no-negation, Derives.make-array}
use Rattle.parser.specs.Grammar.{Derives.no-array, Derives.index, Derives.take-length, Derives.invoke, Derives.no-suffix}
use Rattle.parser.specs.Grammar.{Derives.a-literal, Derives.a-true, Derives.a-false, Derives.a-name, Derives.a-this, Derives.make-object}
use Rattle.parser.specs.Grammar.{Derives.get-register, Derives.a-fixed-literal}
use Rattle.parser.specs.Grammar.{Derives.parentheses, Derives.none-given, Derives.some-given, Derives.one_argument, Derives.more-arguments}
use Rattle.parser.specs.Grammar.{Derives.a_block, Derives.an-if, Derives.a-while, Derives.a-print, Derives.an-assignment}
use Rattle.parser.specs.Grammar.{Derives.an-element-assignment, Derives.put-register, Derives.no-statement, Derives.more-statements}
use Rattle.parser.specs.Grammar.{DerivesElement, DerivesElement.an_int, DerivesElement.a-boolean, DerivesElement.a-class}
use Rattle.parser.specs.Grammar.{DerivesType.an-array, DerivesType.no-mark, DerivesVariable.a-variable, DerivesVariables.no-variable}
use Rattle.parser.specs.Grammar.{DerivesVariables.more-variables, DerivesType.a-fixed}
use Rattle.parser.specs.Grammar.{DerivesParameters.one-parameter, DerivesParameters.more-parameters, DerivesFormals.no-formal}
use Rattle.parser.specs.Grammar.{DerivesFormals.some-formals, DerivesMethod.a-method, DerivesMethods.no-method, DerivesMethods.more-methods}
use Rattle.parser.specs.Grammar.{DerivesParent.no-parent, DerivesParent.a-parent, DerivesClass.a-class-declaration, DerivesClasses.no-class}
use Rattle.parser.specs.Grammar.{DerivesClasses.more-classes, DerivesProgram.a_program}
use Rattle.grammar.specs.laws.Passing.{seen, seen-kind, kinds-apart}
use Rattle.reader.specs.promises.Matches.{TokenIs, NameIs, NameMatches, operator_kind, ElementMatches, TypeMatches, Matches}
use Rattle.reader.specs.promises.Matches.{VariableMatches, VariablesMatch, MethodMatches, MethodsMatch, ParentMatches, ClassMatches}
use Rattle.reader.specs.promises.Matches.{ClassesMatch, ProgramMatches, NumeralMatches}

-- the kind of an operator's token
picked : (k q : ℕ) (a o : Operator) (r : Option Operator) → q ≡ operator_kind a → (r ≡ some o → k ≡ operator_kind o)
    → (if eqb k q then (λ _. some a) otherwise λ _. r) ≡ some o → k ≡ operator_kind o
picked k q a o r e f = go (eqb k q) refl
  where
    go : (b : Bool) → eqb k q ≡ b → (if b then (λ _. some a) otherwise λ _. r) ≡ some o → k ≡ operator_kind o
    go true h z = let same : a ≡ o = cc in eqb-true k q h ∙ e ∙ ap operator_kind same
    go false h z = f z

never : {A : Type 0} {o : Operator} → none ≡ some o → A
never e = let z : ◌≡◌ {A = ℕ} 0 1 = cc in absurd (omega arith)

operator-kind : (L : Level) (k : ℕ) {o : Operator} → operator_of L k ≡ some o → k ≡ operator_kind o
unfolding operator_of
operator-kind conjunction k {o} e = picked k k_and and o none refl never e
operator-kind comparison k {o} e = picked k k_less less o none refl never e
operator-kind sum k {o} e = picked k k_plus plus o _ refl (picked k k_minus minus o none refl never) e
operator-kind product k {o} e = picked k k_times times o none refl never e

no_end : (o : Operator) → eqb k_end (operator_kind o) ≡ false
no_end and = refl
no_end less = refl
no_end plus = refl
no_end minus = refl
no_end times = refl

-- a name is no `[`
no-bracket : (k : ℕ) → is_name_lem k ≡ true → ¬ (k ≡ k_open_bracket)
unfolding is_name_lem
no-bracket k n = eqb-false k k_open_bracket (kinds-apart is_name_lem k k_open_bracket n refl)

module _ {ts : List Token} where
  -- a token of a kind, or a name, is there
  token : {i q : ℕ} → eqb k_end q ≡ false → kind_at ts i ≡ q → TokenIs ts i q
  token {i} {q} n e = record { there = seen-kind ts i q n e; is = e }

  named : (i : ℕ) → is_name_lem (kind_at ts i) ≡ true → NameIs ts i (token_at ts i).text
  unfolding is_name_lem
  named i e = record { there = seen ts i is_name_lem refl e; named = e; spelt = refl }

  name : (i : ℕ) → is_name_lem (kind_at ts i) ≡ true → NameMatches ts (name_at ts i)
  name i e = record { token = named i e; start = refl }

  element-matches : {i : ℕ} {t : Element} → DerivesElement ts i t → ElementMatches ts i t
  unfolding ElementMatches
  element-matches (an_int e) = token refl e
  element-matches (a-boolean e) = token refl e
  element-matches (a-class {i} n) = named i n

  pub tree-matches : {s : Sort} {k : Kind s} {i j : ℕ} {t : Part s} → Derives ts s k i j t → Matches ts t
  unfolding Matches NumeralMatches TypeMatches
  tree-matches (operate {L} {m = m} {o = o} d e d') = (token (no_end o) (operator-kind L (kind_at ts m) e), tree-matches d, tree-matches d')
  tree-matches (one-operand d) = tree-matches d
  tree-matches (negate e d) = (token refl e, tree-matches d)
  tree-matches (no-negation d) = tree-matches d
  tree-matches (make-array {i = i} e t f d _) =
      let next : i + 1 + 1 ≡ i + 2 = omega arith in
      (token refl e, refl, (element-matches t, rw next (token refl f)), refl, tree-matches d)
  tree-matches (no-array d) = tree-matches d
  tree-matches (index d e d' _) = (token refl e, tree-matches d, tree-matches d')
  tree-matches (take-length d e f) = (token refl e, token refl f, tree-matches d)
  tree-matches (invoke {m = m} d e n _ d' _) = (token refl e, refl, name (m + 1) n, tree-matches d, tree-matches d')
  tree-matches (no-suffix d) = tree-matches d
  tree-matches (a-literal e) = (token refl e, refl)
  tree-matches (a-fixed-literal e) = (token refl e, refl)
  tree-matches (a-true e) = token refl e
  tree-matches (a-false e) = token refl e
  tree-matches (a-name {i = i} n) = named i n
  tree-matches (a-this e) = token refl e
  tree-matches (make-object {i = i} e n o _) = (token refl e, refl, name (i + 1) n, token refl o)
  tree-matches (get-register e _ _ _ d _) = (token refl e, tree-matches d)
  tree-matches (parentheses _ d _) = tree-matches d
  tree-matches none-given = tt
  tree-matches (some-given d) = tree-matches d
  tree-matches (one_argument d) = (tree-matches d, tt)
  tree-matches (more-arguments d _ d') = (tree-matches d, tree-matches d')
  tree-matches (a_block e d _) = (token refl e, tree-matches d)
  tree-matches (an-if e _ d _ d' _ d'') = (token refl e, tree-matches d, tree-matches d', tree-matches d'')
  tree-matches (a-while e _ d _ d') = (token refl e, tree-matches d, tree-matches d')
  tree-matches (a-print e _ _ _ _ _ d _ _) = (token refl e, tree-matches d)
  tree-matches (an-assignment {i = i} n e d _) = (named i n, token refl e, tree-matches d)
  tree-matches (an-element-assignment {i = i} n e d _ _ d' _) = (named i n, token refl e, tree-matches d, tree-matches d')
  tree-matches (put-register e _ _ _ d _ d' _ _) = (token refl e, tree-matches d, tree-matches d')
  tree-matches no-statement = tt
  tree-matches (more-statements d d') = (tree-matches d, tree-matches d')

  -- DECLARATIONS. After a type comes a name, so that a type with no mark is not followed by `[`.

  variable-matches : {i j : ℕ} {v : Variable} → DerivesVariable ts i j v → VariableMatches ts v
  unfolding TypeMatches ElementMatches
  variable-matches (a-variable (an-array {i} t f _) n) =
      record { type = (element-matches t, token refl f); start = refl; name = name (i + 3) n }
  variable-matches (a-variable (no-mark {i} t) n) =
      record {
        type = (element-matches t, no-bracket (kind_at ts (i + 1)) n);
        start = refl;
        name = name (i + 1) n;
      }
  variable-matches (a-variable (a-fixed {i} e) n) =
      record { type = (token refl e, no-bracket (kind_at ts (i + 1)) n); start = refl; name = name (i + 1) n }

  variables-match : {i j : ℕ} {vs : List Variable} → DerivesVariables ts i j vs → VariablesMatch ts vs
  unfolding VariablesMatch
  variables-match no-variable = tt
  variables-match (more-variables d _ d') = (variable-matches d, variables-match d')

  parameters-match : {i j : ℕ} {vs : List Variable} → DerivesParameters ts i j vs → VariablesMatch ts vs
  unfolding VariablesMatch
  parameters-match (one-parameter d) = (variable-matches d, tt)
  parameters-match (more-parameters d _ d') = (variable-matches d, parameters-match d')

  formals-match : {i j : ℕ} {vs : List Variable} → DerivesFormals ts i j vs → VariablesMatch ts vs
  unfolding VariablesMatch
  formals-match no-formal = tt
  formals-match (some-formals d) = parameters-match d

  -- the row after a variable's name is where it ends
  pub after-name : {i j : ℕ} {v : Variable} → DerivesVariable ts i j v → v.name.row + 1 ≡ j
  after-name (a-variable d n) = refl

  method-matches : {i j : ℕ} {m : Method} → DerivesMethod ts i j m → MethodMatches ts m
  method-matches (a-method _ head after ps _ _ ls ss _ v _ _) =
      record {
        head = variable-matches head;
        after = rw (after-name head) (token refl after);
        parameters = formals-match ps;
        locals = variables-match ls;
        body = tree-matches ss;
        value = tree-matches v;
      }

  methods-match : {i j : ℕ} {ms : List Method} → DerivesMethods ts i j ms → MethodsMatch ts ms
  unfolding MethodsMatch
  methods-match no-method = tt
  methods-match (more-methods d d') = (method-matches d, methods-match d')

  parent-matches : {i j : ℕ} {p : Option Name} → DerivesParent ts i j p → ParentMatches ts p
  unfolding ParentMatches
  parent-matches no-parent = tt
  parent-matches (a-parent {i} _ n) = name (i + 1) n

  class-matches : {i j : ℕ} {c : Class} → DerivesClass ts i j c → ClassMatches ts c
  class-matches (a-class-declaration {i} _ n p _ fs ms _) =
      record { name = name (i + 1) n; parent = parent-matches p; fields = variables-match fs; methods = methods-match ms }

  pub classes-match : {i j : ℕ} {cs : List Class} → DerivesClasses ts i j cs → ClassesMatch ts cs
  unfolding ClassesMatch
  classes-match no-class = tt
  classes-match (more-classes d d') = (class-matches d, classes-match d')

  pub program-matches : {p : Program} → DerivesProgram ts p → ProgramMatches ts p
  program-matches (a_program head d _ _ cs) = record { main = name 1 head.at1; statement = tree-matches d; classes = classes-match cs }
