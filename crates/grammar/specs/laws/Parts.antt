-- The parsers of expressions and statements: what they answer the grammar derives, they do what the machine does, and the fuel is enough
-- where it is more than `16 * (length ts - i) + rank m`. By induction on the fuel, over all modes at once.
use Prim.Native.Nat.{ℕ, zero, suc, ◌+◌, ◌*◌, ◌-◌, ◌<◌}
use Rattle.std.specs.Prelude.{◌≡◌, Bool, ◌&&◌}
use Rattle.std.proofs.Math.Path.{refl}
use Rattle.std.proofs.Common.{sym, subst}
use mathlib.Core.List.{List, [], ◌∷◌}
use Rattle.std.proofs.Math.Bool.{true, false}
use Rattle.std.proofs.Math.Option.{Option, none, some}
use native.Mathlib.Omega.{arith}
use Rattle.std.proofs.Math.Numerals.{towards_numerals}
use borrow.Author.Tests.{eqb-true}
use Rattle.std.proofs.Math.Dec.{eqb}
use Rattle.std.proofs.Math.ListN.{length}
use Rattle.base.specs.Choice.{if◌then◌otherwise◌, option}
use Rattle.base.specs.laws.Tests.{and-true}
use Rattle.lexer.specs.Tokens.{Token}
use Rattle.lexer.specs.Kinds.{k_end, k_out, k_println, k_literal, k_else, k_false, k_if, k_length, k_new, k_system, k_this, k_true, k_while}
use Rattle.lexer.specs.Kinds.{k_get, k_put, k_port, k_fixed_literal}
use Rattle.lexer.specs.Kinds.{k_not, k_assign, k_dot, k_comma, k_semicolon, k_open, k_close, k_open_bracket, k_close_bracket, k_open_brace, k_close_brace}
use Rattle.lexer.specs.Kinds.{is_name_lem}
use Rattle.parser.specs.Tree.{Operator, Element, Sort, Sort.expression, Sort.arguments, Sort.statement, Sort.statements, Part, Expression}
use Rattle.parser.specs.Tree.{Part.new_array_lem, Part.new_object_lem, Part.binary, Part.element, Part.array_length, Part.call}
use Rattle.parser.specs.Stream.{kind_at, place_at, name_at, element_at, Level, Level.conjunction, Level.comparison, Level.sum, Level.product}
use Rattle.parser.specs.Stream.{operator_of}
use Rattle.parser.specs.Parse.{Parsed, ok, bad, bind, expect, Mode, operand, an_expression, begins_type_lem, new_array_from, begins_statement_lem}
use Rattle.parser.specs.Parse.{step, parse_as}
use Rattle.parser.specs.promises.Post.{rank}
use Rattle.parser.specs.Grammar as Grammar
use Rattle.parser.specs.Grammar.{DerivesElement, a-class}
use Rattle.parser.specs.Grammar.{Kind, Derives, operate, one-operand, negate, no-negation, make-array, no-array, index, take-length, invoke}
use Rattle.parser.specs.Grammar.{no-suffix, a-literal, a-true, a-false, a-name, a-this, make-object, get-register, parentheses}
use Rattle.parser.specs.Grammar.{none-given, some-given, one_argument, more-arguments, a_block, an-if, a-while, a-print, an-assignment}
use Rattle.parser.specs.Grammar.{an-element-assignment, put-register, no-statement, more-statements, a-fixed-literal}
use Rattle.grammar.specs.laws.Recogniser.{Symbol, push, rule, refuses, operand_of, array_end, target_end, is_basic}
use Rattle.grammar.specs.laws.Passing.{seen, seen-kind, no-keyword, element-found, is_operator_of, single}
use Rattle.grammar.specs.laws.Passing.{tests-kind, tests-next, tests-either, tests-again, pushed-by, binds-all, moved, passes-bad}
use Rattle.grammar.specs.laws.Passing.{PassesOver, Moves, pushed, refused, accept, looks, binds, gives, tests, takes, takes-name}
use Rattle.grammar.specs.laws.Passing.{takes-operator, expects, expects-name, expects-element}

-- the machine's symbol for a mode
abbrev pub symbol_of : {s : Sort} → Mode s → Symbol
symbol_of (Mode.operation L) = Symbol.operation L
symbol_of (Mode.operations L first l) = Symbol.operations L
symbol_of Mode.unary = Symbol.unary
symbol_of Mode.postfix = Symbol.postfix
symbol_of Mode.primary = Symbol.primary
symbol_of (Mode.suffixes b first l) = Symbol.suffixes b
symbol_of Mode.argument_list = Symbol.argument_list
symbol_of Mode.some_arguments_lem = Symbol.some_arguments_lem
symbol_of Mode.a_statement = Symbol.a_statement
symbol_of Mode.statement_list = Symbol.statement_list

-- what stands before suffixes
abbrev pub Before : List Token → Bool → (first i : ℕ) → Expression → Type 0
Before ts true first i l = Derives ts expression Kind.indexable first i l
Before ts false first i l = Derives ts expression Kind.postfix first i l

-- what the answer t, up to token j, of a mode's parser from token i on means. That of an argument list has the `)`.
abbrev pub Meant : (ts : List Token) → {s : Sort} → Mode s → ℕ → Part s → ℕ → Type 0
Meant ts (Mode.operation L) i t j = Derives ts expression (Kind.operation L) i j t
Meant ts (Mode.operations L first l) i t j =
    Derives ts expression (Kind.operation L) first i l → Derives ts expression (Kind.operation L) first j t
Meant ts Mode.unary i t j = Derives ts expression Kind.unary i j t
Meant ts Mode.postfix i t j = Derives ts expression Kind.postfix i j t
Meant ts Mode.primary i t j = Derives ts expression Kind.primary i j t
Meant ts (Mode.suffixes b first l) i t j = Before ts b first i l → Derives ts expression Kind.postfix first j t
Meant ts Mode.argument_list i t j = (e : ℕ) × Derives ts arguments Kind.argument_list i e t × (kind_at ts e ≡ k_close) × (j ≡ e + 1)
Meant ts Mode.some_arguments_lem i t j = (e : ℕ) × Derives ts arguments Kind.some_arguments_lem i e t × (kind_at ts e ≡ k_close) × (j ≡ e + 1)
Meant ts Mode.a_statement i t j = Derives ts statement Kind.a_statement i j t × (i < j)
Meant ts Mode.statement_list i t j = Derives ts statements Kind.statement_list i j t

-- every parser with the fuel f
record Below (ts : List Token) (f : ℕ) : Type 0 where
  of : {s : Sort} (m : Mode s) (i : ℕ) → 16 * (length ts - i) + rank m < f
      → PassesOver ts (symbol_of m ∷ []) i (Meant ts m i) (parse_as f ts m i)

abbrev Step : List Token → (f : ℕ) → {s : Sort} → Mode s → ℕ → Type 0
Step ts f m i =
    16 * (length ts - i) + rank m < suc f → PassesOver ts (symbol_of m ∷ []) i (Meant ts m i) (step ts (λ s m j. parse_as f ts m j) m i)

postfix-of : {ts : List Token} (b : Bool) {first i : ℕ} {l : Expression} → Before ts b first i l
    → Derives ts expression Kind.postfix first i l
postfix-of true d = no-array d
postfix-of false d = d

ranks : (L : Level) → (0 < rank (Mode.operation L)) × (rank (Mode.operation L) < 7)
ranks conjunction = omega arith
ranks comparison = omega arith
ranks sum = omega arith
ranks product = omega arith

operator-here : (ts : List Token) (L : Level) (i : ℕ) {o : Operator} → operator_of L (kind_at ts i) ≡ some o → i < length ts
unfolding operator_of
operator-here ts L i e = seen ts i (λ k. is_operator_of L k) (no_end L) (rw e)
  where
    no_end : (L : Level) → is_operator_of L k_end ≡ false
    no_end conjunction = refl
    no_end comparison = refl
    no_end sum = refl
    no_end product = refl

-- one step of each mode, over the parsers with less fuel
module _ (ts : List Token) (f : ℕ) (p : Below ts f) where
  operands : (L : Level) (i : ℕ) → 16 * (length ts - i) + rank (Mode.operation L) < suc f
      → PassesOver ts (operand_of L ∷ []) i (λ e j. Derives ts expression (Grammar.operand L) i j e) (parse_as f ts (operand L) i)
  operands conjunction i h = p.of (Mode.operation comparison) i (omega arith)
  operands comparison i h = p.of (Mode.operation sum) i (omega arith)
  operands sum i h = p.of (Mode.operation product) i (omega arith)
  operands product i h = p.of Mode.unary i (omega arith)

  operation-step : (L : Level) (i : ℕ) → Step ts f (Mode.operation L) i
  unfolding step rule
  operation-step L i h =
      looks (Symbol.operation L) i
      (pushed (binds _ (operands L i h) λ l j le d. gives (p.of (Mode.operations L i l) j (omega (arith, ranks L))) λ t n le₂ g. g (one-operand d)))

  operations-step : (L : Level) (first : ℕ) (l : Expression) (i : ℕ) → Step ts f (Mode.operations L first l) i
  unfolding step rule
  operations-step L first l i h = looks (Symbol.operations L) i (go (operator_of L (kind_at ts i)) refl)
    where
      go : (o : Option Operator) → operator_of L (kind_at ts i) ≡ o
          → Moves ts [] i (Meant ts (Mode.operations L first l) i) (option o (push []) λ o. push (Symbol.an_operator L ∷ operand_of L ∷ Symbol.operations L ∷ []))
          (option o (ok l i) λ o. bind (parse_as f ts (operand L) (i + 1)) λ r j. parse_as f ts (Mode.operations L first (binary (place_at ts first i) o l r)) j)
      go none e = pushed (accept λ d. d)
      go (some o) e =
          let here = operator-here ts L i e in
          pushed (takes-operator L e (binds _ (operands L (i + 1) (omega (arith, ranks L))) λ r j le d.
          gives (p.of (Mode.operations L first (binary (place_at ts first i) o l r)) j (omega arith)) λ t n le₂ g dl. g (operate dl e d)))

  unary-step : (i : ℕ) → Step ts f Mode.unary i
  unfolding step rule
  unary-step i h =
      looks Symbol.unary i (tests-kind k_not i _ _ _ _
      (λ e. let here = seen-kind ts i k_not refl e in
      pushed (takes k_not e (binds _ (p.of Mode.unary (i + 1) (omega arith)) λ t j le d. accept (negate e d))))
      (λ n. pushed (gives (p.of Mode.postfix i (omega arith)) λ t j le d. no-negation d)))

  -- `new C()` and `new T[e]`, after C and T
  abbrev object : ℕ → Parsed Expression
  object i = expect ts k_open (i + 1 + 1) λ j. expect ts k_close j λ j. ok (new_object_lem (place_at ts i i) (name_at ts (i + 1))) j

  object-end : (i : ℕ) → kind_at ts i ≡ k_new → is_name_lem (kind_at ts (i + 1)) ≡ true
      → PassesOver ts (Symbol.one k_open ∷ Symbol.one k_close ∷ []) (i + 1 + 1) (λ e j. Derives ts expression Kind.primary i j e) (object i)
  object-end i e e₁ =
      expects k_open (i + 1 + 1) _ λ e₂. expects k_close (i + 1 + 1 + 1) _ λ e₃.
      accept (simp towards_numerals (make-object e e₁ (simp towards_numerals at e₂) (simp towards_numerals at e₃)))

  abbrev array : ℕ → Element → Parsed Expression
  array i t =
      expect ts k_open_bracket (i + 2) λ j. bind (parse_as f ts an_expression j) λ x j. expect ts k_close_bracket j λ j.
      parse_as f ts (Mode.suffixes false i (new_array_lem (place_at ts i i) (element_at ts (i + 1) t) x)) j

  array-end : (i : ℕ) (t : Element) → 16 * (length ts - i) < suc f → kind_at ts i ≡ k_new → DerivesElement ts (i + 1) t
      → PassesOver ts array_end (i + 2) (Meant ts Mode.postfix i) (array i t)
  array-end i t h e d =
      let here = seen-kind ts i k_new refl e in
      expects k_open_bracket (i + 2) _ λ e₁. binds _ (p.of an_expression (i + 2 + 1) (omega arith)) λ x j le d₁.
      expects k_close_bracket j _ λ e₂.
      gives (p.of (Mode.suffixes false i (new_array_lem (place_at ts i i) (element_at ts (i + 1) t) x)) (j + 1) (omega arith)) λ y n le₂ g.
      g (make-array e d e₁ (simp towards_numerals at d₁) e₂)

  -- what the parser of primaries answers after `new`
  new-object : (f i : ℕ) → 0 < f → kind_at ts i ≡ k_new → is_name_lem (kind_at ts (i + 1)) ≡ true → parse_as f ts Mode.primary i ≡ object i
  unfolding parse_as step is_name_lem
  new-object zero i h e e₁ = absurd (omega arith)
  new-object (suc f) i h e e₁ = rw (e, e₁)

  no-object : (f i : ℕ) → 0 < f → kind_at ts i ≡ k_new → is_name_lem (kind_at ts (i + 1)) ≡ false → parse_as f ts Mode.primary i ≡ bad (i + 1)
  unfolding parse_as step is_name_lem
  no-object zero i h e n = absurd (omega arith)
  no-object (suc f) i h e n = rw (e, n)

  new-class : (i : ℕ) → 16 * (length ts - i) + 1 < suc f → kind_at ts i ≡ k_new
      → PassesOver ts (Symbol.a_name ∷ Symbol.after_class ∷ []) (i + 1) (Meant ts Mode.postfix i)
      (if is_name_lem (kind_at ts (i + 1)) && eqb (kind_at ts (i + 2)) k_open_bracket
      then (λ _. new_array_from ts (λ s m j. parse_as f ts m j) i) otherwise λ _.
      bind (parse_as f ts Mode.primary i) λ x j. parse_as f ts (Mode.suffixes true i x) j)
  unfolding rule
  new-class i h e = go (is_name_lem (kind_at ts (i + 1))) refl
    where
      here : i < length ts
      here = seen-kind ts i k_new refl e

      go : (b : Bool) → is_name_lem (kind_at ts (i + 1)) ≡ b
          → PassesOver ts (Symbol.a_name ∷ Symbol.after_class ∷ []) (i + 1) (Meant ts Mode.postfix i)
          (if b && eqb (kind_at ts (i + 2)) k_open_bracket then (λ _. new_array_from ts (λ s m j. parse_as f ts m j) i) otherwise λ _.
          bind (parse_as f ts Mode.primary i) λ x j. parse_as f ts (Mode.suffixes true i x) j)
      go true e₁ =
          rw (element-found (a-class e₁), new-object f i (omega arith) e e₁)
          (takes-name e₁ (moved (i + 2) (omega arith) (looks Symbol.after_class (i + 2) (tests-kind k_open_bracket (i + 2) _ _ _ _
          (λ _. pushed (array-end i _ (omega arith) e (a-class e₁)))
          (λ _. pushed (binds-all (Symbol.one k_open ∷ Symbol.one k_close ∷ []) _ (moved (i + 1 + 1) (omega arith) (object-end i e e₁))
          λ x j le d. gives (p.of (Mode.suffixes true i x) j (omega arith)) λ t n le₂ g. g (no-suffix d)))))))
      go false n = rw (no-object f i (omega arith) e n) (passes-bad λ S. refuses {x = Symbol.a_name} {i = i + 1} (rw n))

  postfix-step : (i : ℕ) → Step ts f Mode.postfix i
  unfolding step rule begins_type_lem
  postfix-step i h =
      looks Symbol.postfix i (tests-next k_new (begins_type_lem (kind_at ts (i + 1)) (eqb (kind_at ts (i + 2)) k_open_bracket)) i _ _ _ _
      (λ e. pushed (takes k_new e (looks Symbol.after_new (i + 1) (tests-either (is_basic (kind_at ts (i + 1))) _ (i + 1) _ _ _ _
      (λ _. pushed (expects-element (i + 1) _ λ t d. moved (i + 2) (omega arith) (array-end i t (omega arith) e d)))
      (λ _. pushed (new-class i (omega arith) e))))))
      (λ n. pushed (binds _ (p.of Mode.primary i (omega arith)) λ x j le d. gives (p.of (Mode.suffixes true i x) j (omega arith)) λ t n le₂ g. g (no-suffix d))))

  suffixes-step : (b : Bool) (first : ℕ) (l : Expression) (i : ℕ) → Step ts f (Mode.suffixes b first l) i
  unfolding step rule
  suffixes-step b first l i h =
      looks (Symbol.suffixes b) i (tests (eqb (kind_at ts i) k_open_bracket && b) i _ _ _ _
      (λ e. let here = seen ts i (λ k. eqb k k_open_bracket && b) refl e in
      let e₁ = eqb-true (kind_at ts i) k_open_bracket (and-true (eqb (kind_at ts i) k_open_bracket) b e).0 in
      pushed (takes k_open_bracket e₁ (binds _ (p.of an_expression (i + 1) (omega arith)) λ x j le d. expects k_close_bracket j _ λ e₂.
      gives (p.of (Mode.suffixes true first (element (place_at ts first i) l x)) (j + 1) (omega arith)) λ t n le₂ g before.
      g (index (subst (λ (b : Bool). Before ts b first i l) (and-true (eqb (kind_at ts i) k_open_bracket) b e).1 before) e₁ d e₂))))
      (λ n₁. tests-kind k_open_bracket i _ _ _ _ (λ e. refused)
      (λ n₂. tests-again k_dot (eqb (kind_at ts (i + 1)) k_length) i _ _ _ _ _
      (λ e₁. let here = seen-kind ts i k_dot refl e₁ in
      pushed (takes k_dot e₁ (looks Symbol.after_dot (i + 1) (tests-kind k_length (i + 1) _ _ _ _
      (λ e₂. pushed (takes k_length e₂ (moved (i + 2) (omega arith)
      (gives (p.of (Mode.suffixes true first (array_length (place_at ts first i) l)) (i + 2) (omega arith)) λ t n le₂ g before.
      g (take-length (postfix-of b before) e₁ e₂)))))
      (λ n. pushed (expects-name (i + 1) _ λ e₂. expects k_open (i + 1 + 1) _ λ e₃. binds _ (p.of Mode.argument_list (i + 1 + 1 + 1) (omega arith)) λ es j le a.
      gives (p.of (Mode.suffixes true first (call (place_at ts first i) l (name_at ts (i + 1)) es)) j (omega arith)) λ t n le₂ g before.
      g (subst (λ (j : ℕ). Derives ts expression Kind.indexable first j (call (place_at ts first i) l (name_at ts (i + 1)) es)) (sym a.3)
      (invoke (postfix-of b before) e₁ e₂ (simp towards_numerals at e₃) (simp towards_numerals at a.1) a.2))))))))
      (λ n. pushed (accept λ before. postfix-of b before)))))

  primary-step : (i : ℕ) → Step ts f Mode.primary i
  unfolding step rule
  primary-step i h =
      looks Symbol.primary i (tests-kind k_literal i _ _ _ _ (single k_literal i a-literal)
      (λ _. tests-kind k_fixed_literal i _ _ _ _ (single k_fixed_literal i a-fixed-literal)
      (λ _. tests-kind k_true i _ _ _ _ (single k_true i a-true)
      (λ _. tests-kind k_false i _ _ _ _ (single k_false i a-false)
      (λ _. tests (is_name_lem (kind_at ts i)) i _ _ _ _ (λ e. pushed (takes-name e (accept (a-name e))))
      (λ _. tests-kind k_this i _ _ _ _ (single k_this i a-this)
      (λ _. tests-kind k_new i _ _ _ _
      (λ e. pushed (takes k_new e (expects-name (i + 1) _ λ e₁. object-end i e e₁)))
      (λ _. tests-kind k_open i _ _ _ _
      (λ e. let here = seen-kind ts i k_open refl e in
      pushed (takes k_open e (binds _ (p.of an_expression (i + 1) (omega arith)) λ x j le d. expects k_close j _ λ e₂. accept (parentheses e d e₂))))
      (λ _. tests-kind k_port i _ _ _ _
      (λ e. let here = seen-kind ts i k_port refl e in
      pushed (takes k_port e (expects k_dot (i + 1) _ λ e₁. expects k_get (i + 1 + 1) _ λ e₂. expects k_open (i + 1 + 1 + 1) _ λ e₃.
      binds _ (p.of an_expression (i + 1 + 1 + 1 + 1) (omega arith)) λ x j le d. expects k_close j _ λ e₄.
      accept (get-register e e₁ (simp towards_numerals at e₂) (simp towards_numerals at e₃) (simp towards_numerals at d) e₄))))
      (λ _. refused))))))))))

  argument_list-step : (i : ℕ) → Step ts f Mode.argument_list i
  unfolding step rule
  argument_list-step i h =
      looks Symbol.argument_list i (tests-kind k_close i _ _ _ _
      (single k_close i λ e. (i, none-given, e, refl))
      (λ n. pushed (gives (p.of Mode.some_arguments_lem i (omega arith)) λ es j le a. (a.0, some-given a.1, a.2, a.3))))

  some_arguments-step : (i : ℕ) → Step ts f Mode.some_arguments_lem i
  unfolding step rule
  some_arguments-step i h =
      looks Symbol.some_arguments_lem i (pushed (binds _ (p.of an_expression i (omega arith)) λ x j le d.
      looks Symbol.more_arguments j (tests-kind k_close j _ _ _ _
      (single k_close j λ e. (j, one_argument d, e, refl))
      (λ n. pushed (expects k_comma j _ λ e. let there = seen-kind ts j k_comma refl e in
      binds _ (p.of Mode.some_arguments_lem (j + 1) (omega arith)) λ es n le₂ a. accept (a.0, more-arguments d e a.1, a.2, a.3))))))

  -- an assignment, after its name, and after its name and `[`
  named-element : (i : ℕ) → is_name_lem (kind_at ts i) ≡ true → kind_at ts (i + 1) ≡ k_open_bracket → 16 * (length ts - i) < suc f
      → PassesOver ts target_end (i + 2) (Meant ts Mode.a_statement i) (step ts (λ s m j. parse_as f ts m j) Mode.a_statement i)
  unfolding step is_name_lem
  named-element i e e₁ h =
      let here = seen ts i is_name_lem refl e in
      let n = no-keyword (kind_at ts i) e in
      rw (n.0, n.1, n.2, n.3, n.4, e, e₁)
      (binds _ (p.of an_expression (i + 2) (omega arith)) λ x j le d. expects k_close_bracket j _ λ e₂. expects k_assign (j + 1) _ λ e₃.
      binds _ (p.of an_expression (j + 1 + 1) (omega arith)) λ y n le₂ d₂. expects k_semicolon n _ λ e₄.
      accept (an-element-assignment e e₁ d e₂ e₃ (simp towards_numerals at d₂) e₄, omega arith))

  named : (i : ℕ) → is_name_lem (kind_at ts i) ≡ true → 16 * (length ts - i) < suc f
      → PassesOver ts (Symbol.after_name ∷ []) (i + 1) (Meant ts Mode.a_statement i) (step ts (λ s m j. parse_as f ts m j) Mode.a_statement i)
  unfolding step rule is_name_lem
  named i e h = go (eqb (kind_at ts (i + 1)) k_open_bracket) refl
    where
      go : (b : Bool) → eqb (kind_at ts (i + 1)) k_open_bracket ≡ b
          → PassesOver ts (Symbol.after_name ∷ []) (i + 1) (Meant ts Mode.a_statement i)
          (step ts (λ s m j. parse_as f ts m j) Mode.a_statement i)
      go true b =
          let e₁ = eqb-true (kind_at ts (i + 1)) k_open_bracket b in
          pushed-by {xs = Symbol.one k_open_bracket ∷ target_end} (rw b)
          (takes k_open_bracket e₁ (moved (i + 2) (omega arith) (named-element i e e₁ h)))
      go false b =
          let here = seen ts i is_name_lem refl e in
          let n = no-keyword (kind_at ts i) e in
          rw (n.0, n.1, n.2, n.3, n.4, e, b)
          (pushed-by {xs = Symbol.one k_assign ∷ Symbol.operation conjunction ∷ Symbol.one k_semicolon ∷ []} (rw b)
          (expects k_assign (i + 1) _ λ e₁. binds _ (p.of an_expression (i + 1 + 1) (omega arith)) λ y j le d. expects k_semicolon j _ λ e₂.
          accept (an-assignment e e₁ (simp towards_numerals at d) e₂, omega arith)))

  other-statement : (i : ℕ) → is_name_lem (kind_at ts i) ≡ false → Step ts f Mode.a_statement i
  unfolding step rule
  other-statement i unnamed h =
      looks Symbol.a_statement i (tests-kind k_open_brace i _ _ _ _
      (λ e. let here = seen-kind ts i k_open_brace refl e in
      pushed (takes k_open_brace e (binds _ (p.of Mode.statement_list (i + 1) (omega arith)) λ ss j le d. expects k_close_brace j _ λ e₂.
      accept (a_block e d e₂, omega arith))))
      (λ _. tests-kind k_if i _ _ _ _
      (λ e. let here = seen-kind ts i k_if refl e in
      pushed (takes k_if e (expects k_open (i + 1) _ λ e₁. binds _ (p.of an_expression (i + 1 + 1) (omega arith)) λ x j le d. expects k_close j _ λ e₂.
      binds _ (p.of Mode.a_statement (j + 1) (omega arith)) λ s n le₂ d₂. expects k_else n _ λ e₃. binds _ (p.of Mode.a_statement (n + 1) (omega arith)) λ t o le₃ d₃.
      accept (an-if e e₁ (simp towards_numerals at d) e₂ d₂.0 e₃ d₃.0, omega arith))))
      (λ _. tests-kind k_while i _ _ _ _
      (λ e. let here = seen-kind ts i k_while refl e in
      pushed (takes k_while e (expects k_open (i + 1) _ λ e₁. binds _ (p.of an_expression (i + 1 + 1) (omega arith)) λ x j le d. expects k_close j _ λ e₂.
      binds _ (p.of Mode.a_statement (j + 1) (omega arith)) λ s n le₂ d₂. accept (a-while e e₁ (simp towards_numerals at d) e₂ d₂.0, omega arith))))
      (λ _. tests-kind k_system i _ _ _ _
      (λ e. let here = seen-kind ts i k_system refl e in
      pushed (takes k_system e (expects k_dot (i + 1) _ λ e₁. expects k_out (i + 1 + 1) _ λ e₂. expects k_dot (i + 1 + 1 + 1) _ λ e₃.
      expects k_println (i + 1 + 1 + 1 + 1) _ λ e₄. expects k_open (i + 1 + 1 + 1 + 1 + 1) _ λ e₅. binds _ (p.of an_expression (i + 1 + 1 + 1 + 1 + 1 + 1) (omega arith)) λ x j le d.
      expects k_close j _ λ e₆. expects k_semicolon (j + 1) _ λ e₇.
      accept (
        simp towards_numerals (a-print e e₁ (simp towards_numerals at e₂) (simp towards_numerals at e₃) (simp towards_numerals at e₄) (simp towards_numerals at e₅)
            (simp towards_numerals at d) e₆ e₇),
        omega arith,
      ))))
      (λ _. tests-kind k_port i _ _ _ _
      (λ e. let here = seen-kind ts i k_port refl e in
      pushed (takes k_port e (expects k_dot (i + 1) _ λ e₁. expects k_put (i + 1 + 1) _ λ e₂. expects k_open (i + 1 + 1 + 1) _ λ e₃.
      binds _ (p.of an_expression (i + 1 + 1 + 1 + 1) (omega arith)) λ x j le d. expects k_comma j _ λ e₄.
      binds _ (p.of an_expression (j + 1) (omega arith)) λ y n le₂ d₂. expects k_close n _ λ e₅. expects k_semicolon (n + 1) _ λ e₆.
      accept (
        simp towards_numerals (put-register e e₁ (simp towards_numerals at e₂) (simp towards_numerals at e₃) (simp towards_numerals at d) e₄ d₂ e₅ e₆),
        omega arith,
      ))))
      (λ _. rw unnamed refused))))))

  a_statement-step : (i : ℕ) → Step ts f Mode.a_statement i
  unfolding rule is_name_lem
  a_statement-step i h = go (is_name_lem (kind_at ts i)) refl
    where
      go : (b : Bool) → is_name_lem (kind_at ts i) ≡ b
          → PassesOver ts (Symbol.a_statement ∷ []) i (Meant ts Mode.a_statement i) (step ts (λ s m j. parse_as f ts m j) Mode.a_statement i)
      go true e =
          let n = no-keyword (kind_at ts i) e in
          pushed-by {xs = Symbol.a_name ∷ Symbol.after_name ∷ []} (rw (n.0, n.1, n.2, n.3, n.4, e)) (takes-name e (named i e (omega arith)))
      go false n = other-statement i n h

  statement_list-step : (i : ℕ) → Step ts f Mode.statement_list i
  unfolding step rule begins_statement_lem is_name_lem
  statement_list-step i h =
      looks Symbol.statement_list i (tests (begins_statement_lem (kind_at ts i)) i _ _ _ _
      (λ e. let here = seen ts i begins_statement_lem refl e in
      pushed (binds _ (p.of Mode.a_statement i (omega arith)) λ s j le d. binds _ (p.of Mode.statement_list j (omega arith)) λ ss n le₂ g. accept (more-statements d.0 g)))
      (λ n. pushed (accept no-statement)))

  every-step : {s : Sort} (m : Mode s) (i : ℕ) → Step ts f m i
  every-step (Mode.operation L) i h = operation-step L i h
  every-step (Mode.operations L first l) i h = operations-step L first l i h
  every-step Mode.unary i h = unary-step i h
  every-step Mode.postfix i h = postfix-step i h
  every-step Mode.primary i h = primary-step i h
  every-step (Mode.suffixes b first l) i h = suffixes-step b first l i h
  every-step Mode.argument_list i h = argument_list-step i h
  every-step Mode.some_arguments_lem i h = some_arguments-step i h
  every-step Mode.a_statement i h = a_statement-step i h
  every-step Mode.statement_list i h = statement_list-step i h

pub parts : (ts : List Token) (f : ℕ) {s : Sort} (m : Mode s) (i : ℕ) → 16 * (length ts - i) + rank m < f
    → PassesOver ts (symbol_of m ∷ []) i (Meant ts m i) (parse_as f ts m i)
unfolding parse_as
parts ts zero m i h = absurd (omega arith)
parts ts (suc f) m i h = every-step ts f (record { of = λ m i h. parts ts f m i h }) m i h

pub named-statement : (ts : List Token) (f i : ℕ) → is_name_lem (kind_at ts i) ≡ true → 16 * (length ts - i) < f
    → PassesOver ts (Symbol.after_name ∷ []) (i + 1) (Meant ts Mode.a_statement i) (parse_as f ts Mode.a_statement i)
unfolding parse_as
named-statement ts zero i e h = absurd (omega arith)
named-statement ts (suc f) i e h = named ts f (record { of = λ m i h. parts ts f m i h }) i e h

pub named-target : (ts : List Token) (f i : ℕ) → is_name_lem (kind_at ts i) ≡ true → kind_at ts (i + 1) ≡ k_open_bracket → 16 * (length ts - i) < f
    → PassesOver ts target_end (i + 2) (Meant ts Mode.a_statement i) (parse_as f ts Mode.a_statement i)
unfolding parse_as
named-target ts zero i e e₁ h = absurd (omega arith)
named-target ts (suc f) i e e₁ h = named-element ts f (record { of = λ m i h. parts ts f m i h }) i e e₁ h
