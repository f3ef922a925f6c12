-- A table into which a program's tree was stored holds it: the rows of what is derived from the tokens i up to j lie between i and j,
-- those of different parts in different ranges of tokens, and a node's own row in none of these, so that no word is written twice.
use Rattle.std.specs.Prelude.{ℕ, ◌+◌, ◌≤◌, ◌<◌, ◌≡◌, List}
use Rattle.std.proofs.Math.Option.{Option}
use native.Mathlib.Omega.{arith}
use Rattle.std.proofs.Math.ListN.{length}
use Rattle.base.specs.promises.Table.{col, c_begin, c_first, c_second, c_next, c_third, c_type, c_parameters, c_locals, c_body, c_value}
use Rattle.lexer.specs.Tokens.{Token}
use Rattle.parser.specs.Tree.{Place, Name, Sort, Sort.expression, Sort.arguments, Sort.statement, Sort.statements, Part, TypeUse, Variable}
use Rattle.parser.specs.Tree.{Method, Class, Program}
use Rattle.parser.specs.Stream.{place_at}
use Rattle.parser.specs.Grammar.{Kind, Derives, DerivesType, DerivesVariable, DerivesVariables, DerivesParameters, DerivesFormals}
use Rattle.parser.specs.Grammar.{DerivesMethod, DerivesMethods, DerivesParent, DerivesClass, DerivesClasses, DerivesProgram}
use Rattle.parser.specs.Grammar.{Derives.operate, Derives.one-operand, Derives.negate, Derives.no-negation, Derives.make-array}
use Rattle.parser.specs.Grammar.{Derives.no-array, Derives.index, Derives.take-length, Derives.invoke, Derives.no-suffix}
use Rattle.parser.specs.Grammar.{Derives.a-literal, Derives.a-true, Derives.a-false, Derives.a-name, Derives.a-this, Derives.make-object}
use Rattle.parser.specs.Grammar.{Derives.get-register, Derives.a-fixed-literal}
use Rattle.parser.specs.Grammar.{Derives.parentheses, Derives.none-given, Derives.some-given, Derives.one_argument, Derives.more-arguments}
use Rattle.parser.specs.Grammar.{Derives.a_block, Derives.an-if, Derives.a-while, Derives.a-print, Derives.an-assignment}
use Rattle.parser.specs.Grammar.{Derives.an-element-assignment, Derives.put-register, Derives.no-statement, Derives.more-statements}
use Rattle.parser.specs.Grammar.{DerivesType.an-array, DerivesType.no-mark, DerivesVariable.a-variable, DerivesVariables.no-variable}
use Rattle.parser.specs.Grammar.{DerivesVariables.more-variables, DerivesType.a-fixed}
use Rattle.parser.specs.Grammar.{DerivesParameters.one-parameter, DerivesParameters.more-parameters, DerivesFormals.no-formal}
use Rattle.parser.specs.Grammar.{DerivesFormals.some-formals, DerivesMethod.a-method, DerivesMethods.no-method, DerivesMethods.more-methods}
use Rattle.parser.specs.Grammar.{DerivesParent.no-parent, DerivesParent.a-parent, DerivesClass.a-class-declaration, DerivesClasses.no-class}
use Rattle.parser.specs.Grammar.{DerivesClasses.more-classes, DerivesProgram.a_program}
use Rattle.parser.specs.promises.Layout.{absent, row_of, node, store, store_variable, store_variables, method_row_lem, store_method, store_methods}
use Rattle.parser.specs.promises.Layout.{row_parent, class_row_lem, store_class, store_classes, store_program}
use Rattle.reader.specs.promises.Holds.{NodeRow, Holds, HoldsVariables, HoldsMethod, HoldsMethods, HoldsClass, HoldsClasses}
use Rattle.reader.specs.promises.Holds.{HoldsProgram}
use Rattle.reader.specs.laws.Matching.{after-name}
use Rattle.reader.specs.laws.Framing.{Inside, Region, nowhere, whole_row, next_of, without, Lies, Beside, Own, writes_nothing, reshape}
use Rattle.reader.specs.laws.Framing.{join, another, link}

-- a node's row, written after its parts, none of which has a word in it; E is what of it is still not read
with_row : (p : Place) (left right : ℕ) {i j : ℕ} {f : List ℕ → List ℕ} {H : List ℕ → Type 0} (E : Region)
    → Lies i j (whole_row p.row) f H → (i ≤ p.row) × (p.row < j)
    → ((k r : ℕ) → Inside i j k r → E k r → (c_second < k) × (r ≡ p.row))
    → Lies i j E (λ tab. node (f tab) p.row p.start left right) (λ tab. NodeRow tab p left right × H tab)
unfolding node
with_row p left right {i} {j} E x w fewer =
    let x₃ = another c_begin p.row p.start x (omega arith) (omega arith) (omega arith) in
    let x₄ = another c_first p.row left x₃ (omega arith) (omega arith) (omega arith) in
    let x₅ = another c_second p.row right x₄ (omega arith) (omega arith) (omega arith) in
    reshape i j E x₅ (omega arith) (λ k r h e. let z = fewer k r h e in omega arith) (λ tab h. (record { start = h.0.0.1; first = h.0.1; second = h.1 }, h.0.0.0))

-- nodes without a part, with one and with two
module _ (i j : ℕ) (p : Place) where
  leaf : (i ≤ p.row) × (p.row < j)
      → Own i j p.row (λ tab. node tab p.row p.start absent absent) (λ tab. NodeRow tab p absent absent)
  leaf w =
      let x = with_row p absent absent (next_of p.row) (writes_nothing i j (whole_row p.row) (omega arith)) w (omega arith) in
      (w.0, w.1, reshape i j (next_of p.row) x (omega arith) (λ k r _ e. e) (λ tab h. h.0))

  module _ (left right : ℕ) {a b : ℕ} {A : Region} {f : List ℕ → List ℕ} {H : List ℕ → Type 0} (x : Lies a b A f H) where
    one-part : (i ≤ p.row) × (p.row < j) × (i ≤ a) × (b ≤ j) → ((k r : ℕ) → Inside a b k r → r ≡ p.row → A k r)
        → Own i j p.row (λ tab. node (f tab) p.row p.start left right) (λ tab. NodeRow tab p left right × H tab)
    one-part w n =
        (w.0, w.1, with_row p left right (next_of p.row) (reshape i j (whole_row p.row) x (omega arith) n (λ tab h. h)) (omega arith) (omega arith))

    two-parts : {c d : ℕ} {B : Region} {g : List ℕ → List ℕ} {G : List ℕ → Type 0} → Lies c d B g G → (i ≤ p.row) × (p.row < j)
        → Beside i j (whole_row p.row) a b A c d B
        → Own i j p.row (λ tab. node (g (f tab)) p.row p.start left right) (λ tab. NodeRow tab p left right × H tab × G tab)
    two-parts y w n =
        let z = with_row p left right (next_of p.row) (join i j (whole_row p.row) x y n) w (omega arith) in
        (w.0, w.1, reshape i j (next_of p.row) z (omega arith) (λ k r _ e. e) (λ tab h. (h.0, h.1.0, h.1.1)))

-- a node lies there with its own row, a list without
abbrev LiesAt : (s : Sort) → (i j : ℕ) → Part s → Type 0
LiesAt expression i j t = Own i j (row_of t) (λ tab. store t tab) (λ tab. Holds tab t)
LiesAt arguments i j t = Lies i j nowhere (λ tab. store t tab) (λ tab. Holds tab t)
LiesAt statement i j t = Own i j (row_of t) (λ tab. store t tab) (λ tab. Holds tab t)
LiesAt statements i j t = Lies i j nowhere (λ tab. store t tab) (λ tab. Holds tab t)

module _ {ts : List Token} where
  lies : {s : Sort} {k : Kind s} {i j : ℕ} {t : Part s} → Derives ts s k i j t → LiesAt s i j t
  unfolding store Holds
  lies (operate {i = i} {m = m} {j = j} d _ d') =
      let x = lies d in let y = lies d' in two-parts i j (place_at ts i m) _ _ x.2 y.2 (omega arith) (omega arith)
  lies (one-operand d) = lies d
  lies (negate {i = i} {j = j} _ d) = let x = lies d in one-part i j (place_at ts i i) _ _ x.2 (omega arith) (omega arith)
  lies (no-negation d) = lies d
  lies (make-array {i = i} {j = j} _ _ _ d _) = let x = lies d in one-part i (j + 1) (place_at ts i i) _ _ x.2 (omega arith) (omega arith)
  lies (no-array d) = lies d
  lies (index {i = i} {m = m} {j = j} d _ d' _) =
      let x = lies d in let y = lies d' in two-parts i (j + 1) (place_at ts i m) _ _ x.2 y.2 (omega arith) (omega arith)
  lies (take-length {i = i} {m = m} d _ _) = let x = lies d in one-part i (m + 2) (place_at ts i m) _ _ x.2 (omega arith) (omega arith)
  lies (invoke {i = i} {m = m} {j = j} d _ _ _ d' _) =
      let x = lies d in let y = lies d' in two-parts i (j + 1) (place_at ts i m) _ _ x.2 y (omega arith) (omega arith)
  lies (no-suffix d) = lies d
  lies (a-literal {i = i} _) = leaf i (i + 1) (place_at ts i i) (omega arith)
  lies (a-fixed-literal {i = i} _) = leaf i (i + 1) (place_at ts i i) (omega arith)
  lies (a-true {i = i} _) = leaf i (i + 1) (place_at ts i i) (omega arith)
  lies (a-false {i = i} _) = leaf i (i + 1) (place_at ts i i) (omega arith)
  lies (a-name {i = i} _) = leaf i (i + 1) (place_at ts i i) (omega arith)
  lies (a-this {i = i} _) = leaf i (i + 1) (place_at ts i i) (omega arith)
  lies (make-object {i = i} _ _ _ _) = leaf i (i + 4) (place_at ts i i) (omega arith)
  lies (get-register {i = i} {j = j} _ _ _ _ d _) =
      let x = lies d in one-part i (j + 1) (place_at ts i i) _ _ x.2 (omega arith) (omega arith)
  lies (parentheses {i = i} {j = j} {e = e} _ d _) =
      let x = lies d in (omega arith, omega arith, reshape i (j + 1) (next_of (row_of e)) x.2 (omega arith) (λ k r _ h. h) (λ tab h. h))
  lies (none-given {i = i}) = writes_nothing i i nowhere (omega arith)
  lies (some-given d) = lies d
  lies (one_argument {j = j} d) = link _ (lies d) (writes_nothing j j nowhere (omega arith)) (omega arith)
  lies (more-arguments d _ d') = link _ (lies d) (lies d') (omega arith)
  lies (a_block {i = i} {j = j} _ d _) = let x = lies d in one-part i (j + 1) (place_at ts i i) _ _ x (omega arith) (omega arith)
  lies (an-if {i = i} {k = k} {n = n} _ _ d _ d' _ d'') =
      let x = lies d in
      let y = lies d' in
      let z = lies d'' in
      let parts = join i n (whole_row i) (join (i + 2) k nowhere x.2 y.2 (omega arith)) z.2 (omega arith) in
      let row = with_row (place_at ts i i) _ _ (λ k r. (c_second < k) × (r ≡ i)) parts (omega arith) (omega arith) in
      let all = another c_third i _ row (omega arith) (omega arith) (omega arith) in (
        omega arith,
        omega arith,
        reshape i n (next_of i) all (omega arith) (omega arith) (λ tab h. (h.0.0, h.1, h.0.1.0.0, h.0.1.0.1, h.0.1.1)),
      )
  lies (a-while {i = i} {k = k} _ _ d _ d') = let x = lies d in let y = lies d' in two-parts i k (place_at ts i i) _ _ x.2 y.2 (omega arith) (omega arith)
  lies (a-print {i = i} {j = j} _ _ _ _ _ _ d _ _) = let x = lies d in one-part i (j + 2) (place_at ts i i) _ _ x.2 (omega arith) (omega arith)
  lies (an-assignment {i = i} {j = j} _ _ d _) = let x = lies d in one-part i (j + 1) (place_at ts i i) _ _ x.2 (omega arith) (omega arith)
  lies (an-element-assignment {i = i} {k = k} _ _ d _ _ d' _) =
      let x = lies d in let y = lies d' in two-parts i (k + 1) (place_at ts i i) _ _ x.2 y.2 (omega arith) (omega arith)
  lies (put-register {i = i} {k = k} _ _ _ _ d _ d' _ _) =
      let x = lies d in let y = lies d' in two-parts i (k + 2) (place_at ts i i) _ _ x.2 y.2 (omega arith) (omega arith)
  lies (no-statement {i = i}) = writes_nothing i i nowhere (omega arith)
  lies (more-statements d d') = link _ (lies d) (lies d') (omega arith)

  -- DECLARATIONS: a variable, a method and a class have the row of their name

  type-order : {i j : ℕ} {t : TypeUse} → DerivesType ts i j t → i ≤ j
  type-order (an-array _ _ _) = omega arith
  type-order (no-mark _) = omega arith
  type-order (a-fixed _) = omega arith

  pub variable-lies : {i j : ℕ} {v : Variable} → DerivesVariable ts i j v
      → Own i j v.name.row (λ tab. store_variable v tab) (λ tab. col tab c_type v.name.row ≡ v.type.row)
  unfolding store_variable
  variable-lies (a-variable {i} {j} d _) =
      let h = type-order d in
      let x = another c_type j _ (writes_nothing i (j + 1) (whole_row j) (omega arith)) (omega arith) (omega arith) (omega arith) in
      (h, omega arith, reshape i (j + 1) (next_of j) x (omega arith) (omega arith) (λ tab h. h.1))

  pub variables-lie : {i j : ℕ} {vs : List Variable} → DerivesVariables ts i j vs
      → Lies i j nowhere (λ tab. store_variables vs tab) (λ tab. HoldsVariables tab vs)
  unfolding store_variables HoldsVariables
  variables-lie (no-variable {i}) = writes_nothing i i nowhere (omega arith)
  variables-lie (more-variables d _ d') = link _ (variable-lies d) (variables-lie d') (omega arith)

  parameters-lie : {i j : ℕ} {vs : List Variable} → DerivesParameters ts i j vs
      → Lies i j nowhere (λ tab. store_variables vs tab) (λ tab. HoldsVariables tab vs)
  unfolding store_variables HoldsVariables
  parameters-lie (one-parameter {i} {j} d) = link _ (variable-lies d) (writes_nothing j j nowhere (omega arith)) (omega arith)
  parameters-lie (more-parameters d _ d') = link _ (variable-lies d) (parameters-lie d') (omega arith)

  pub formals-lie : {i j : ℕ} {vs : List Variable} → DerivesFormals ts i j vs
      → Lies i j nowhere (λ tab. store_variables vs tab) (λ tab. HoldsVariables tab vs)
  unfolding store_variables HoldsVariables
  formals-lie (no-formal {i}) = writes_nothing i i nowhere (omega arith)
  formals-lie (some-formals d) = parameters-lie d

  -- a method's parts lie behind the row after its name, n + 1; its type is written before them, the other words of the two rows after them
  method-lies : {i j : ℕ} {m : Method} → DerivesMethod ts i j m
      → Own i j m.name.row (λ tab. store_method m tab) (λ tab. HoldsMethod tab m)
  unfolding store_method store_variable method_row_lem
  method-lies (a-method {i} {a} {c = c} {d} {e} {head} _ hd _ ps _ _ ls ss _ v _ _) =
      let n = head.name.row in
      let own = variable-lies hd in
      let after = after-name hd in
      let w = formals-lie ps in
      let x = variables-lie ls in
      let y = lies ss in
      let z = lies v in
      let parts = join (a + 1) e nowhere (join (a + 1) d nowhere (join (a + 1) c nowhere w x (omega arith)) y (omega arith)) z.2 (omega arith) in
      let type = another c_type n head.type.row (writes_nothing n (n + 2) (Inside n (n + 2)) (omega arith)) (omega arith) (omega arith) (omega arith) in
      let m₀ = join i (e + 2) (without (Inside n (n + 2)) c_type n) type parts (omega arith) in
      let m₁ = another c_parameters n _ m₀ (omega arith) (omega arith) (omega arith) in
      let m₂ = another c_locals n _ m₁ (omega arith) (omega arith) (omega arith) in
      let m₃ = another c_body (n + 1) _ m₂ (omega arith) (omega arith) (omega arith) in
      let m₄ = another c_value (n + 1) _ m₃ (omega arith) (omega arith) (omega arith) in (
        omega arith,
        omega arith,
        reshape i (e + 2) (next_of n) m₄ (omega arith) (omega arith) λ tab h.
            record {
              result = h.0.0.0.0.0.1;
              first = h.0.0.0.1;
              second = h.0.0.1;
              start = h.0.1;
              return = h.1;
              parameters = h.0.0.0.0.1.0.0.0;
              locals = h.0.0.0.0.1.0.0.1;
              body = h.0.0.0.0.1.0.1;
              value = h.0.0.0.0.1.1;
            },
      )

  methods-lie : {i j : ℕ} {ms : List Method} → DerivesMethods ts i j ms
      → Lies i j nowhere (λ tab. store_methods ms tab) (λ tab. HoldsMethods tab ms)
  unfolding store_methods HoldsMethods
  methods-lie (no-method {i}) = writes_nothing i i nowhere (omega arith)
  methods-lie (more-methods d d') = link _ (method-lies d) (methods-lie d') (omega arith)

  pub parent-order : {i j : ℕ} {p : Option Name} → DerivesParent ts i j p → i ≤ j
  parent-order no-parent = omega arith
  parent-order (a-parent _ _) = omega arith

  -- a class's row is written as a node's with two parts
  class-lies : {i j : ℕ} {k : Class} → DerivesClass ts i j k → Own i j k.name.row (λ tab. store_class k tab) (λ tab. HoldsClass tab k)
  unfolding store_class class_row_lem node
  class-lies (a-class-declaration {i} {c = c} {p} _ _ d _ fs ms _) =
      let h = parent-order d in
      let x = variables-lie fs in
      let y = methods-lie ms in
      let z = two-parts i (c + 1) (record { row = i + 1; start = row_parent p }) _ _ x y (omega arith) (omega arith) in (
        z.0,
        z.1,
        reshape i (c + 1) (next_of (i + 1)) z.2 (omega arith) (λ k r _ e. e) λ tab h.
            record { parent = h.0.start; first = h.0.first; second = h.0.second; fields = h.1; methods = h.2 },
      )

  pub classes-lie : {i j : ℕ} {ks : List Class} → DerivesClasses ts i j ks
      → Lies i j nowhere (λ tab. store_classes ks tab) (λ tab. HoldsClasses tab ks)
  unfolding store_classes HoldsClasses
  classes-lie (no-class {i}) = writes_nothing i i nowhere (omega arith)
  classes-lie (more-classes d d') = link _ (class-lies d) (classes-lie d') (omega arith)

  -- main's statement, the classes, and the way to the first class in row 0
  pub program-lies : {p : Program} → DerivesProgram ts p
      → Lies 0 (length ts) nowhere (λ tab. store_program p tab) (λ tab. HoldsProgram tab p)
  unfolding store_program
  program-lies (a_program _ d _ _ cs) =
      let n = length ts in
      let x = lies d in
      let y = classes-lie cs in
      let all = another c_next 0 _ (join 0 n (whole_row 0) x.2 y (omega arith)) (omega arith) (omega arith) (omega arith) in
      reshape 0 n nowhere all (omega arith) (omega arith) (λ tab h. record { statement = h.0.0; first = h.1; classes = h.0.1 })
