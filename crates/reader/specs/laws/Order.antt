-- A derived tree is in order: its rows lie within the tokens that it was derived from, a part begins no earlier than its whole, and the
-- rows of a list's members rise, since tokens are read from the left.
use Rattle.std.specs.Prelude.{ℕ, ◌+◌, ◌≤◌, ◌<◌, ◌≡◌, refl, true, List, length}
use Rattle.std.proofs.Common.{sym, ◌∙◌, true≢false, lit<}
use Rattle.std.proofs.Math.Path.{ap}
use Rattle.std.proofs.Math.Option.{Option, none, some, none-ne-some}
use native.Mathlib.Omega.{arith}
use Rattle.std.proofs.Math.Decide.{dec_lt}
use Rattle.std.proofs.Math.ListN.{get_or-eq_default}
use Rattle.base.specs.Codes.{tokens_most}
use Rattle.lexer.specs.Kinds.{is_name_lem}
use Rattle.lexer.specs.Tokens.{Token}
use Rattle.parser.specs.Tree.{Name, Operator, TypeUse, Sort, Sort.expression, Sort.arguments, Sort.statement, Sort.statements, Part}
use Rattle.parser.specs.Tree.{Variable, Method, Class, Program}
use Rattle.parser.specs.Stream.{kind_at, start_at, no_more, Level, Level.conjunction, Level.comparison, Level.sum, Level.product, operator_of}
use Rattle.parser.specs.promises.Layout.{row_of, row_methods, row_classes, main_row}
use Rattle.parser.specs.Grammar.{Kind, Derives, operate, one-operand, negate, no-negation, make-array, no-array, index, take-length, invoke}
use Rattle.parser.specs.Grammar.{no-suffix, a-literal, a-true, a-false, a-name, a-this, make-object, get-register, parentheses, none-given}
use Rattle.parser.specs.Grammar.{some-given, a-fixed-literal, a-fixed}
use Rattle.parser.specs.Grammar.{one_argument, more-arguments, a_block, an-if, a-while, a-print, an-assignment, an-element-assignment}
use Rattle.parser.specs.Grammar.{put-register, no-statement, more-statements}
use Rattle.parser.specs.Grammar.{DerivesType, an-array, no-mark, DerivesVariable, a-variable, DerivesVariables, no-variable, more-variables}
use Rattle.parser.specs.Grammar.{DerivesParameters, one-parameter, more-parameters, DerivesFormals, no-formal, some-formals}
use Rattle.parser.specs.Grammar.{DerivesMethod, a-method, DerivesMethods, no-method, more-methods, DerivesParent, no-parent, a-parent}
use Rattle.parser.specs.Grammar.{DerivesClass, a-class-declaration, DerivesClasses, no-class, more-classes, DerivesProgram, a_program}
use Rattle.reader.specs.promises.FilledTable.{few-nodes}
use Rattle.reader.specs.promises.WalkPost.{Ordered, MethodsOrdered, ClassesOrdered, ProgramOrdered}

-- tokens stand one after the other
abbrev pub TokensRise : List Token → Type 0
TokensRise ts = (i j : ℕ) → i ≤ j → j < length ts → start_at ts i ≤ start_at ts j

no-operator : (L : Level) → operator_of L 0 ≡ none
unfolding operator_of
no-operator conjunction = refl
no-operator comparison = refl
no-operator sum = refl
no-operator product = refl

-- a statement's row is that of its first token
abbrev pub FirstRow : Sort → (i row : ℕ) → Type 0
FirstRow expression i r = Unit {0}
FirstRow arguments i r = Unit {0}
FirstRow statement i r = r ≡ i
FirstRow statements i r = Unit {0}

pub first-row : {ts : List Token} {s : Sort} {k : Kind s} {i j : ℕ} {t : Part s} → Derives ts s k i j t → FirstRow s i (row_of t)
first-row (operate l e r) = tt
first-row (one-operand d) = tt
first-row (negate e d) = tt
first-row (no-negation d) = tt
first-row (make-array e₁ e₂ e₃ d e₄) = tt
first-row (no-array d) = tt
first-row (index a e₁ d e₂) = tt
first-row (take-length a e₁ e₂) = tt
first-row (invoke d e₁ e₂ e₃ ds e₄) = tt
first-row (no-suffix d) = tt
first-row (a-literal e) = tt
first-row (a-fixed-literal e) = tt
first-row (a-true e) = tt
first-row (a-false e) = tt
first-row (a-name e) = tt
first-row (a-this e) = tt
first-row (make-object e₁ e₂ e₃ e₄) = tt
first-row (get-register e₁ e₂ e₃ e₄ d e₅) = tt
first-row (parentheses e₁ d e₂) = tt
first-row none-given = tt
first-row (some-given d) = tt
first-row (one_argument d) = tt
first-row (more-arguments d e ds) = tt
first-row (a_block e₁ ds e₂) = refl
first-row (an-if e₁ e₂ d e₃ s e₄ t) = refl
first-row (a-while e₁ e₂ d e₃ s) = refl
first-row (a-print e₁ e₂ e₃ e₄ e₅ e₆ d e₇ e₈) = refl
first-row (an-assignment e₁ e₂ d e₃) = refl
first-row (an-element-assignment e₁ e₂ a e₃ e₄ d e₅) = refl
first-row (put-register e₁ e₂ e₃ e₄ n e₅ d e₆ e₇) = refl
first-row no-statement = tt
first-row (more-statements s ss) = tt

module _ (ts : List Token) where
  -- a token of a kind is there
  past : (i : ℕ) → length ts ≤ i → kind_at ts i ≡ 0
  past i h = ap (λ (t : Token). t.kind) (get_or-eq_default ts no_more h)

  there : (i : ℕ) {q : ℕ} → kind_at ts i ≡ q → 0 < q → i < length ts
  there i e lt = elim (dec_lt i (length ts)) [ yes l ↦ l | no l ↦ absurd (omega (arith, past i (omega arith))) ]

  name-there : (i : ℕ) → is_name_lem (kind_at ts i) ≡ true → i < length ts
  unfolding is_name_lem
  name-there i e = elim (dec_lt i (length ts)) [ yes l ↦ l | no l ↦ absurd (true≢false (sym e ∙ ap is_name_lem (past i (omega arith)))) ]

  operator-there : (L : Level) (i : ℕ) {o : Operator} → operator_of L (kind_at ts i) ≡ some o → i < length ts
  operator-there L i e = elim (dec_lt i (length ts)) [
    | yes l ↦ l
    | no l ↦ absurd (none-ne-some _ (sym (no-operator L) ∙ ap (operator_of L) (sym (past i (omega arith))) ∙ e))
  ]

-- ROWS
module _ (ts : List Token) (few : length ts ≤ tokens_most) where
  -- the row of what was derived from tokens i up to j, all of which are there; a list may have none
  abbrev InRange : Sort → (i j row : ℕ) → Type 0
  InRange expression i j r = (i ≤ r) × (r < j) × (j ≤ length ts)
  InRange statement i j r = (i ≤ r) × (r < j) × (j ≤ length ts)
  InRange arguments i j r = (i ≤ j) × (i ≤ r) × (j ≤ length ts)
  InRange statements i j r = (i ≤ j) × (i ≤ r) × (j ≤ length ts)

  range : {s : Sort} {k : Kind s} {i j : ℕ} {t : Part s} → Derives ts s k i j t → i ≤ length ts → InRange s i j (row_of t)
  range (operate {L = L} {m = m} l e r) h =
      let u = range l h in let n = operator-there ts L m e in let v = range r (omega arith) in (omega (arith, u), omega (arith, v), v.2)
  range (one-operand d) h = range d h
  range (negate {i = i} e d) h = let n = there ts i e (lit< tt) in let v = range d (omega arith) in (omega arith, omega (arith, v), v.2)
  range (no-negation d) h = range d h
  range (make-array {i = i} {j = j} e₁ e₂ e₃ d e₄) h =
      let n = there ts (i + 2) e₃ (lit< tt) in let v = range d (omega arith) in let q = there ts j e₄ (lit< tt) in (omega arith, omega (arith, v), omega arith)
  range (no-array d) h = range d h
  range (index {m = m} {j = j} a e₁ d e₂) h =
      let u = range a h in let n = there ts m e₁ (lit< tt) in let v = range d (omega arith) in let q = there ts j e₂ (lit< tt) in
      (omega (arith, u), omega (arith, v), omega arith)
  range (take-length {m = m} a e₁ e₂) h = let u = range a h in let n = there ts (m + 1) e₂ (lit< tt) in (omega (arith, u), omega arith, omega arith)
  range (invoke {m = m} {j = j} d e₁ e₂ e₃ ds e₄) h =
      let u = range d h in let n = there ts (m + 2) e₃ (lit< tt) in let v = range ds (omega arith) in let q = there ts j e₄ (lit< tt) in
      (omega (arith, u), omega (arith, v), omega arith)
  range (no-suffix d) h = range d h
  range (a-literal {i = i} e) h = let n = there ts i e (lit< tt) in (omega arith, omega arith, omega arith)
  range (a-fixed-literal {i = i} e) h = let n = there ts i e (lit< tt) in (omega arith, omega arith, omega arith)
  range (a-true {i = i} e) h = let n = there ts i e (lit< tt) in (omega arith, omega arith, omega arith)
  range (a-false {i = i} e) h = let n = there ts i e (lit< tt) in (omega arith, omega arith, omega arith)
  range (a-name {i = i} e) h = let n = name-there ts i e in (omega arith, omega arith, omega arith)
  range (a-this {i = i} e) h = let n = there ts i e (lit< tt) in (omega arith, omega arith, omega arith)
  range (make-object {i = i} e₁ e₂ e₃ e₄) h = let n = there ts (i + 3) e₄ (lit< tt) in (omega arith, omega arith, omega arith)
  range (get-register {i = i} {j = j} e₁ e₂ e₃ e₄ d e₅) h =
      let n = there ts (i + 3) e₄ (lit< tt) in let v = range d (omega arith) in let q = there ts j e₅ (lit< tt) in
      (omega arith, omega (arith, v), omega arith)
  range (parentheses {i = i} {j = j} e₁ d e₂) h =
      let n = there ts i e₁ (lit< tt) in let v = range d (omega arith) in let q = there ts j e₂ (lit< tt) in (omega (arith, v), omega (arith, v), omega arith)
  range none-given h = (omega arith, omega arith, h)
  range (some-given d) h = range d h
  range (one_argument d) h = let v = range d h in (omega (arith, v), v.0, v.2)
  range (more-arguments {m = m} d e ds) h =
      let u = range d h in let n = there ts m e (lit< tt) in let v = range ds (omega arith) in (omega (arith, u, v), u.0, v.2)
  range (a_block {i = i} {j = j} e₁ ds e₂) h =
      let n = there ts i e₁ (lit< tt) in let v = range ds (omega arith) in let q = there ts j e₂ (lit< tt) in (omega arith, omega (arith, v), omega arith)
  range (an-if {i = i} {j = j} {k = k} e₁ e₂ d e₃ s e₄ t) h =
      let n = there ts (i + 1) e₂ (lit< tt) in let u = range d (omega arith) in let q = there ts j e₃ (lit< tt) in let v = range s (omega arith) in
      let z = there ts k e₄ (lit< tt) in let w = range t (omega arith) in (omega arith, omega (arith, u, v, w), w.2)
  range (a-while {i = i} {j = j} e₁ e₂ d e₃ s) h =
      let n = there ts (i + 1) e₂ (lit< tt) in let u = range d (omega arith) in let q = there ts j e₃ (lit< tt) in let v = range s (omega arith) in
      (omega arith, omega (arith, u, v), v.2)
  range (a-print {i = i} {j = j} e₁ e₂ e₃ e₄ e₅ e₆ d e₇ e₈) h =
      let n = there ts (i + 5) e₆ (lit< tt) in let u = range d (omega arith) in let q = there ts (j + 1) e₈ (lit< tt) in (omega arith, omega (arith, u), omega arith)
  range (an-assignment {i = i} {j = j} e₁ e₂ d e₃) h =
      let n = there ts (i + 1) e₂ (lit< tt) in let u = range d (omega arith) in let q = there ts j e₃ (lit< tt) in (omega arith, omega (arith, u), omega arith)
  range (an-element-assignment {i = i} {j = j} {k = k} e₁ e₂ a e₃ e₄ d e₅) h =
      let n = there ts (i + 1) e₂ (lit< tt) in let u = range a (omega arith) in let q = there ts (j + 1) e₄ (lit< tt) in let v = range d (omega arith) in
      let z = there ts k e₅ (lit< tt) in (omega arith, omega (arith, u, v), omega arith)
  range (put-register {i = i} {j = j} {k = k} e₁ e₂ e₃ e₄ a e₅ d e₆ e₇) h =
      let n = there ts (i + 3) e₄ (lit< tt) in let u = range a (omega arith) in let q = there ts j e₅ (lit< tt) in
      let v = range d (omega arith) in let z = there ts (k + 1) e₇ (lit< tt) in (omega arith, omega (arith, u, v), omega arith)
  range no-statement h = (omega arith, omega arith, h)
  range (more-statements {m = m} s ss) h = let u = range s h in let v = range ss u.2 in (omega (arith, u, v), u.0, v.2)

-- POSITIONS
module _ (ts : List Token) (few : length ts ≤ tokens_most) (rising : TokensRise ts) where
  -- from token i on nothing begins before `low`
  abbrev From : (low i : ℕ) → Type 0
  From low i = i < length ts → low ≤ start_at ts i

  later : {low : ℕ} (i j : ℕ) → From low i → i ≤ j → From low j
  later i j h le l = omega (arith, h (omega arith), rising i j le l)

  at : (i : ℕ) → From (start_at ts i) i
  at i l = omega arith

  order : {s : Sort} {k : Kind s} {i j : ℕ} {t : Part s} → Derives ts s k i j t → i ≤ length ts → {low : ℕ} → From low i → Ordered low t
  unfolding Ordered
  order (operate {L = L} {i = i} {m = m} l e r) h f =
      let u = range ts few l h in let n = operator-there ts L m e in
      (f (omega (arith, u)), order l h (at i), order r (omega arith) (later i (m + 1) (at i) (omega (arith, u))))
  order (one-operand d) h f = order d h f
  order (negate {i = i} e d) h f = let n = there ts i e (lit< tt) in (f n, order d (omega arith) (later i (i + 1) (at i) (omega arith)))
  order (no-negation d) h f = order d h f
  order (make-array {i = i} e₁ e₂ e₃ d e₄) h f =
      let n = there ts (i + 2) e₃ (lit< tt) in (f (omega arith), order d (omega arith) (later i (i + 3) (at i) (omega arith)))
  order (no-array d) h f = order d h f
  order (index {i = i} {m = m} a e₁ d e₂) h f =
      let u = range ts few a h in let n = there ts m e₁ (lit< tt) in
      (f (omega (arith, u)), order a h (at i), order d (omega arith) (later i (m + 1) (at i) (omega (arith, u))))
  order (take-length {i = i} a e₁ e₂) h f = let u = range ts few a h in (f (omega (arith, u)), order a h (at i))
  order (invoke {i = i} {m = m} d e₁ e₂ e₃ ds e₄) h f =
      let u = range ts few d h in let n = there ts (m + 2) e₃ (lit< tt) in
      (f (omega (arith, u)), order d h (at i), order ds (omega arith) (later i (m + 3) (at i) (omega (arith, u))))
  order (no-suffix d) h f = order d h f
  order (a-literal {i = i} e) h f = f (there ts i e (lit< tt))
  order (a-fixed-literal {i = i} e) h f = f (there ts i e (lit< tt))
  order (a-true {i = i} e) h f = f (there ts i e (lit< tt))
  order (a-false {i = i} e) h f = f (there ts i e (lit< tt))
  order (a-name {i = i} e) h f = f (name-there ts i e)
  order (a-this {i = i} e) h f = f (there ts i e (lit< tt))
  order (make-object {i = i} e₁ e₂ e₃ e₄) h f = f (there ts i e₁ (lit< tt))
  order (get-register {i = i} e₁ e₂ e₃ e₄ d e₅) h f =
      let n = there ts (i + 3) e₄ (lit< tt) in (f (omega arith), order d (omega arith) (later i (i + 4) (at i) (omega arith)))
  order (parentheses {i = i} e₁ d e₂) h f = let n = there ts i e₁ (lit< tt) in order d (omega arith) (later i (i + 1) f (omega arith))
  order none-given h f = tt
  order (some-given d) h f = order d h f
  order (one_argument d) h f = let v = range ts few d h in (omega (arith, v), order d h f, tt)
  order (more-arguments {i = i} {m = m} d e ds) h f =
      let u = range ts few d h in let n = there ts m e (lit< tt) in let v = range ts few ds (omega arith) in
      (omega (arith, u, v), order d h f, order ds (omega arith) (later i (m + 1) f (omega (arith, u))))
  order (a_block {i = i} e₁ ds e₂) h f = let n = there ts i e₁ (lit< tt) in (f n, order ds (omega arith) (later i (i + 1) (at i) (omega arith)))
  order (an-if {i = i} {j = j} {k = k} e₁ e₂ d e₃ s e₄ t) h f =
      let n = there ts (i + 1) e₂ (lit< tt) in let u = range ts few d (omega arith) in let q = there ts j e₃ (lit< tt) in let v = range ts few s (omega arith) in
      let z = there ts k e₄ (lit< tt) in (
        f (omega arith),
        order d (omega arith) (later i (i + 2) (at i) (omega arith)),
        order s (omega arith) (later i (j + 1) (at i) (omega (arith, u))),
        order t (omega arith) (later i (k + 1) (at i) (omega (arith, u, v))),
      )
  order (a-while {i = i} {j = j} e₁ e₂ d e₃ s) h f =
      let n = there ts (i + 1) e₂ (lit< tt) in let u = range ts few d (omega arith) in let q = there ts j e₃ (lit< tt) in
      (f (omega arith), order d (omega arith) (later i (i + 2) (at i) (omega arith)), order s (omega arith) (later i (j + 1) (at i) (omega (arith, u))))
  order (a-print {i = i} e₁ e₂ e₃ e₄ e₅ e₆ d e₇ e₈) h f =
      let n = there ts (i + 5) e₆ (lit< tt) in (f (omega arith), order d (omega arith) (later i (i + 6) (at i) (omega arith)))
  order (an-assignment {i = i} e₁ e₂ d e₃) h f =
      let n = there ts (i + 1) e₂ (lit< tt) in (f (omega arith), order d (omega arith) (later i (i + 2) (at i) (omega arith)))
  order (an-element-assignment {i = i} {j = j} e₁ e₂ a e₃ e₄ d e₅) h f =
      let n = there ts (i + 1) e₂ (lit< tt) in let u = range ts few a (omega arith) in let q = there ts (j + 1) e₄ (lit< tt) in
      (f (omega arith), order a (omega arith) (later i (i + 2) (at i) (omega arith)), order d (omega arith) (later i (j + 2) (at i) (omega (arith, u))))
  order (put-register {i = i} {j = j} e₁ e₂ e₃ e₄ a e₅ d e₆ e₇) h f =
      let n = there ts (i + 3) e₄ (lit< tt) in let u = range ts few a (omega arith) in let q = there ts j e₅ (lit< tt) in (
        f (omega arith),
        order a (omega arith) (later i (i + 4) (at i) (omega arith)),
        order d (omega arith) (later i (j + 1) (at i) (omega (arith, u))),
      )
  order no-statement h f = tt
  order (more-statements {i = i} {m = m} s ss) h f =
      let u = range ts few s h in let v = range ts few ss u.2 in (omega (arith, u, v), order s h f, order ss u.2 (later i m f (omega (arith, u))))

  -- DECLARATIONS
  type-forward : {i j : ℕ} {t : TypeUse} → DerivesType ts i j t → i < j
  type-forward (an-array d e₁ e₂) = omega arith
  type-forward (no-mark d) = omega arith
  type-forward (a-fixed e) = omega arith

  -- a variable ends with its name
  variable-range : {i j : ℕ} {v : Variable} → DerivesVariable ts i j v → (i < v.name.row) × (v.name.row + 1 ≡ j)
  variable-range (a-variable t e) = (type-forward t, refl)

  variables-range : {i j : ℕ} {vs : List Variable} → DerivesVariables ts i j vs → i ≤ length ts → (i ≤ j) × (j ≤ length ts)
  variables-range no-variable h = (omega arith, h)
  variables-range (more-variables {m = m} v e vs) h =
      let n = there ts m e (lit< tt) in let u = variables-range vs (omega arith) in (omega (arith, variable-range v, u), u.1)

  parameters-forward : {i j : ℕ} {vs : List Variable} → DerivesParameters ts i j vs → i ≤ j
  parameters-forward (one-parameter v) = omega (arith, variable-range v)
  parameters-forward (more-parameters v e vs) = omega (arith, variable-range v, parameters-forward vs)

  formals-forward : {i j : ℕ} {vs : List Variable} → DerivesFormals ts i j vs → i ≤ j
  formals-forward no-formal = omega arith
  formals-forward (some-formals vs) = parameters-forward vs

  parent-forward : {i j : ℕ} {p : Option Name} → DerivesParent ts i j p → i ≤ j
  parent-forward no-parent = omega arith
  parent-forward (a-parent e₁ e₂) = omega arith

  -- a method's name lies within it, and its bodies are in order
  pub record MethodInOrder (i j : ℕ) (m : Method) : Type 0 where
    pub low : i ≤ m.name.row
    pub high : m.name.row < j
    pub end : j ≤ length ts
    pub body : Ordered 0 m.body
    pub value : Ordered 0 m.value

  method-order : {i j : ℕ} {m : Method} → DerivesMethod ts i j m → MethodInOrder i j m
  method-order (a-method {i = i} {a = a} {b = b} {c = c} {d = d} {e = e} e₁ hd e₂ ps e₃ e₄ ls ss e₅ v e₆ e₇) =
      let h = variable-range hd in
      let n₁ = formals-forward ps in
      let n₂ = there ts (b + 1) e₄ (lit< tt) in
      let n₃ = variables-range ls (omega arith) in
      let n₄ = there ts d e₅ (lit< tt) in
      let n₆ = there ts (e + 1) e₇ (lit< tt) in
      let u = range ts few v (omega arith) in
      let w = range ts few ss n₃.1 in
      record {
        low = omega (arith, h);
        high = omega (arith, h, n₃, w, u);
        end = omega arith;
        body = order ss n₃.1 (λ l. omega arith);
        value = order v (omega arith) (λ l. omega arith);
      }

  methods-order : {i j : ℕ} {ms : List Method} → DerivesMethods ts i j ms → i ≤ length ts
      → (i ≤ j) × (i ≤ row_methods ms) × (j ≤ length ts) × MethodsOrdered ms
  unfolding MethodsOrdered
  methods-order no-method h = (omega arith, omega arith, h, tt)
  methods-order (more-methods m ms) h =
      let u = method-order m in let v = methods-order ms u.end in
      (omega (arith, u.low, u.high, v.0), u.low, v.2, (omega (arith, u.high, v.1), u.body, u.value, v.3))

  class-order : {i j : ℕ} {k : Class} → DerivesClass ts i j k
      → (k.name.row ≡ i + 1) × (i + 1 < j) × (j ≤ length ts) × MethodsOrdered k.methods
  class-order (a-class-declaration {i = i} {a = a} {b = b} {c = c} e₁ e₂ p e₃ fs ms e₄) =
      let n₁ = parent-forward p in
      let n₂ = there ts a e₃ (lit< tt) in
      let n₃ = variables-range fs (omega arith) in
      let u = methods-order ms n₃.1 in
      let n₄ = there ts c e₄ (lit< tt) in
      (refl, omega (arith, n₁, n₃, u.0), omega arith, u.3)

  pub classes-order : {i j : ℕ} {ks : List Class} → DerivesClasses ts i j ks → i ≤ length ts → (i ≤ row_classes ks) × ClassesOrdered ks
  unfolding ClassesOrdered
  classes-order no-class h = (omega arith, tt)
  classes-order (more-classes k ks) h =
      let u = class-order k in let v = classes-order ks u.2 in (omega (arith, u.0), (omega (arith, u.0, u.1, v.0), u.3, v.1))

  pub program-order : {p : Program} → DerivesProgram ts p → ProgramOrdered p
  program-order {p} d = record { row = (parts d).0; statement = (parts d).1; classes = (parts d).2; few = omega (arith, few-nodes ts p d) }
    where
      parts : {p : Program} → DerivesProgram ts p → (row_of p.statement ≡ main_row) × Ordered 0 p.statement × ClassesOrdered p.classes
      parts (a_program {j = j} hd s e₁ e₂ ks) =
          let n₁ = there ts 13 hd.at13 (lit< tt) in
          let n₂ = there ts (j + 1) e₂ (lit< tt) in
          (first-row s, order s (omega arith) (λ l. omega arith), (classes-order ks (omega arith)).1)
