-- Whatever tokens of a source a tree is derived from, they are its printed ones with pairs of parentheses put in: by induction on
-- derivations. So the printed ones are the fewest.
use Rattle.std.specs.Prelude.{ℕ, suc, ◌+◌, ◌≤◌, ◌<◌, ◌≡◌, Bool, true, false, eqb, leb, length, get_or, drop}
use Rattle.std.proofs.Math.Path.{refl, sym, subst}
use Rattle.std.proofs.Common.{ap, ◌∙◌, arith, add-one, leb-true, leb-false, le-leb, eqb-true, length-append, length-drop, drop-cons}
use mathlib.Core.List.{List, [], ◌∷◌, ◌++◌, map}
use Rattle.std.proofs.Math.Option.{Option, none, some}
use Rattle.std.proofs.lemmas.List.{length-map}
use Rattle.base.specs.Choice.{if◌then◌otherwise◌}
use Rattle.base.specs.Outcome.{accepted}
use Rattle.base.specs.laws.Lists.{drop-none}
use Rattle.base.specs.laws.Tests.{apart}
use Rattle.lexer.specs.Tokens.{Token, decimal, thousandths_of_lem, tokens}
use Rattle.lexer.specs.Kinds.{is_name_lem, k_literal, k_fixed_literal, k_get, k_put, k_port, k_out, k_println, k_boolean, k_class, k_else, k_extends, k_false}
use Rattle.lexer.specs.Kinds.{k_fixed, k_if, k_int, k_length, k_main, k_new, k_public, k_return, k_static, k_string, k_system, k_this, k_true, k_void}
use Rattle.lexer.specs.Kinds.{k_while, k_and, k_less, k_plus, k_minus, k_times, k_not, k_assign, k_dot, k_comma, k_semicolon, k_open, k_close}
use Rattle.lexer.specs.Kinds.{k_open_bracket, k_close_bracket, k_open_brace, k_close_brace}
use Rattle.parser.specs.Tree.{Place, Name, Operator, Operator.and, Operator.less, Operator.plus, Operator.minus, Operator.times}
use Rattle.parser.specs.Tree.{Sort, Sort.expression, Sort.arguments, Part, Part.argument, Part.binary, Expression}
use Rattle.parser.specs.Tree.{Element, TypeUse, Variable, Method, Class, Program, Numeral.int_literal, Numeral.fixed_literal}
use Rattle.parser.specs.Stream.{no_more, token_at, kind_at, place_at, operator_of, Level, Level.conjunction, Level.comparison, Level.sum}
use Rattle.parser.specs.Stream.{Level.product}
use Rattle.parser.specs.Grammar.{operand, an_expression, MainHead}
use Rattle.parser.specs.Grammar.{Kind, Derives, operate, one-operand, negate, no-negation, make-array, no-array, index, take-length, invoke}
use Rattle.parser.specs.Grammar.{no-suffix, a-literal, a-fixed-literal, a-true, a-false, a-name, a-this, make-object, get-register}
use Rattle.parser.specs.Grammar.{parentheses, none-given, some-given, one_argument, more-arguments, a_block, an-if, a-while, a-print}
use Rattle.parser.specs.Grammar.{an-assignment, an-element-assignment, put-register, no-statement, more-statements}
use Rattle.parser.specs.Grammar.{DerivesElement, an_int, a-boolean, a-class, DerivesType, an-array, no-mark, a-fixed}
use Rattle.parser.specs.Grammar.{DerivesVariable, a-variable, DerivesVariables, no-variable, more-variables}
use Rattle.parser.specs.Grammar.{DerivesParameters, one-parameter, more-parameters, DerivesFormals, no-formal, some-formals}
use Rattle.parser.specs.Grammar.{DerivesMethod, a-method, DerivesMethods, no-method, more-methods, DerivesParent, no-parent, a-parent}
use Rattle.parser.specs.Grammar.{DerivesClass, a-class-declaration, DerivesClasses, no-class, more-classes, DerivesProgram, a_program}
use Rattle.grammar.specs.laws.Passing.{seen, seen-kind}
use Rattle.printing.specs.Printed.{Lexeme, spelt, spelling, name_token, literal_token, element_token, level_of, kind_of, own, tightness}
use Rattle.printing.specs.Printed.{reaches}
use Rattle.printing.specs.Printed.{bracketed}
use Rattle.printing.specs.Printed.{bare, print_in, type_tokens, declaration_tokens, declarations_tokens, parameters_tokens, body_tokens}
use Rattle.printing.specs.Printed.{method_tokens, methods_tokens, parent_tokens, class_tokens}
use Rattle.printing.specs.Printed.{classes_tokens, program_tokens}
use Rattle.printing.specs.Pairs.{WithPairs, as-they-are, one_more}
use Rattle.printing.proofs.laws.Lexing.{lexeme}
use Rattle.printing.proofs.laws.Digits.{copied, copied-fixed}
use Rattle.printing.proofs.laws.Spelled.{listed, spelled, spelled-text}
use Rattle.printing.proofs.laws.Fits.{name-word, token-here, a-name-here}
use Rattle.printing.proofs.laws.Appending.{bare-append}

-- TOKENS WITH PAIRS

pub joined : {ls ms ns : List Lexeme} → WithPairs ls ms → WithPairs ms ns → WithPairs ls ns
joined p as-they-are = p
joined p (one_more e front back q r t) = one_more e front back (joined p q) r t

pub put-before : (l : Lexeme) {ls ms : List Lexeme} → WithPairs ls ms → WithPairs (l ∷ ls) (l ∷ ms)
put-before l as-they-are = as-they-are
put-before l (one_more e front back q r t) =
    one_more e (l ∷ front) back (put-before l q) (ap (λ (xs : List Lexeme). l ∷ xs) r) (ap (λ (xs : List Lexeme). l ∷ xs) t)

-- each pair is two tokens
one-longer : (e : Expression) (l : Lexeme) (back : List Lexeme) → length (bare e (l ∷ back)) ≡ length (bare e back) + 1
one-longer e l back =
    let a = bare-append e [] (l ∷ back) in
    let b = bare-append e [] back in
    ap length a ∙ length-append (bare e []) (l ∷ back)
    ∙ omega (arith, ap length b, length-append (bare e []) back)

pub no-fewer : {ls ms : List Lexeme} → WithPairs ls ms → length ls ≤ length ms
no-fewer as-they-are = omega arith
no-fewer (one_more e front back q r t) =
    omega (
      arith,
      no-fewer q,
      ap length r,
      ap length t,
      length-append front (bare e back),
      length-append front (spelt k_open ∷ bare e (spelt k_close ∷ back)),
      one-longer e (spelt k_close) back,
    )

-- WHAT A PLACE ADDS

-- an expression with a pair has at least the tokens that a place gives it
shed : (k : Kind expression) (e : Expression) (rest : List Lexeme)
    → WithPairs (print_in k e rest) (spelt k_open ∷ bare e (spelt k_close ∷ rest))
shed k e rest = go (reaches k (own e))
  where
    go : (b : Bool) → WithPairs (bracketed b (λ r. bare e r) rest) (spelt k_open ∷ bare e (spelt k_close ∷ rest))
    go true = one_more e [] rest as-they-are refl refl
    go false = as-they-are

-- a place that wants a lower class adds no more
fewer : (k l : Kind expression) (e : Expression) (rest : List Lexeme) → tightness k ≤ tightness l → WithPairs (print_in k e rest)
    (print_in l e rest)
fewer k l e rest h = go (reaches k (own e)) (reaches l (own e)) refl refl
  where
    go : (a b : Bool) → reaches k (own e) ≡ a → reaches l (own e) ≡ b
        → WithPairs (bracketed a (λ r. bare e r) rest) (bracketed b (λ r. bare e r) rest)
    go true true p q = as-they-are
    go true false p q = one_more e [] rest as-they-are refl refl
    go false true p q = absurd (omega (arith, leb-false (tightness k) (tightness (own e)) p, leb-true (tightness l) (tightness (own e)) q))
    go false false p q = as-they-are

-- a place that wants the class of all forms adds nothing
bared : {s : Sort} (k : Kind s) (t : Part s) (rest : List Lexeme) → tightness k ≡ 0 → print_in k t rest ≡ bare t rest
bared k t rest e = rw (le-leb (tightness k) (tightness (own t)) (omega arith))

operand-next : (L : Level) → tightness (Kind.operation L) ≤ tightness (operand L)
operand-next conjunction = omega arith
operand-next comparison = omega arith
operand-next sum = omega arith
operand-next product = omega arith

own-fits : (L : Level) → reaches (Kind.operation L) (Kind.operation L) ≡ true
own-fits L = le-leb (tightness (Kind.operation L)) (tightness (Kind.operation L)) (omega arith)

-- an operator is one of its level, and its token is its own
record OperatorAt (L : Level) (k : ℕ) (o : Operator) : Type 0 where
  level : level_of o ≡ L
  kind : k ≡ kind_of o

chosen : (k q : ℕ) (b : Bool) → eqb k q ≡ b → (x : Operator) (L : Level) {o : Operator} → level_of x ≡ L → kind_of x ≡ q
    → (if b then (λ _. some x) otherwise λ _. none) ≡ some o → OperatorAt L k o
chosen k q true e x L {o} h g s =
    let z : x ≡ o = cc in
    subst (OperatorAt L k) z (record { level = h; kind = eqb-true k q e ∙ sym g })
chosen k q false e x L h g s = apart (cc)

operator-at : (L : Level) (k : ℕ) {o : Operator} → operator_of L k ≡ some o → OperatorAt L k o
unfolding operator_of
operator-at conjunction k e = chosen k k_and (eqb k k_and) refl and conjunction refl refl e
operator-at comparison k e = chosen k k_less (eqb k k_less) refl less comparison refl refl e
operator-at sum k {o} e = go (eqb k k_plus) refl e
  where
    go : (b : Bool) → eqb k k_plus ≡ b
        → (if b then (λ _. some plus) otherwise λ _. if eqb k k_minus then (λ _. some minus) otherwise λ _. none) ≡ some o → OperatorAt sum k o
    go true q e = chosen k k_plus true q plus sum refl refl e
    go false q e = chosen k k_minus (eqb k k_minus) refl minus sum refl refl e
operator-at product k e = chosen k k_times (eqb k k_times) refl times product refl refl e

operator-spelled : (o : Operator) → listed (kind_of o) spelled ≡ true
operator-spelled and = refl
operator-spelled less = refl
operator-spelled plus = refl
operator-spelled minus = refl
operator-spelled times = refl

-- some arguments are one and what follows a comma
abbrev Commas : Kind arguments → Part arguments → Type 0
Commas Kind.argument_list es = Unit {0}
Commas Kind.some_arguments_lem es = (e : Expression) (rest : List Lexeme) → bare (argument e es) rest ≡ bare e (spelt k_comma ∷ bare es rest)

commas : {ts : List Token} {k : Kind arguments} {i j : ℕ} {es : Part arguments} → Derives ts arguments k i j es → Commas k es
unfolding bare
commas none-given = tt
commas (some-given d) = tt
commas (one_argument d) = λ e rest. refl
commas (more-arguments d q ds) = λ e rest. refl

-- OF A SOURCE

-- the tokens from i to the last are these, with pairs put in
pub record Tail (ts : List Token) (i : ℕ) (ls : List Lexeme) : Type 0 where
  pub tokens : WithPairs ls (map lexeme (drop i ts))

module _ (s : List ℕ) (ts : List Token) (lexed : tokens s ≡ accepted ts) where
  -- ONE TOKEN

  one : (i j : ℕ) (l : Lexeme) (ls : List Lexeme) → i < length ts → lexeme (token_at ts i) ≡ l → j ≡ i + 1 → Tail ts j ls
      → Tail ts i (l ∷ ls)
  one i j l ls h e z t =
      let y : j ≡ suc i = z ∙ add-one i in
      let d : drop i ts ≡ token_at ts i ∷ drop j ts =
      drop-cons ts i no_more h ∙ ap (λ (n : ℕ). token_at ts i ∷ drop n ts) (sym y) in
      record {
        tokens =
            subst (WithPairs (l ∷ ls)) (sym (ap (map lexeme) d ∙ ap (λ (x : Lexeme). x ∷ map lexeme (drop j ts)) e))
            (put-before l t.tokens);
      }

  put : (i j k : ℕ) (ls : List Lexeme) → listed k spelled ≡ true → kind_at ts i ≡ k → j ≡ i + 1 → Tail ts j ls → Tail ts i (spelt k ∷ ls)
  put i j k ls m e z t =
      let h = seen ts i (λ q. listed q spelled) refl (ap (λ (q : ℕ). listed q spelled) e ∙ m) in
      let x = spelled-text (token-here s ts lexed i h).form (ap (λ (q : ℕ). listed q spelled) e ∙ m) in
      one i j (spelt k) ls h (λ n. record { kind = e n; text = (sym x ∙ ap spelling e) n }) z t

  name : (i j : ℕ) (ls : List Lexeme) → is_name_lem (kind_at ts i) ≡ true → j ≡ i + 1 → Tail ts j ls
      → Tail ts i (name_token (token_at ts i).text ∷ ls)
  unfolding is_name_lem
  name i j ls n z t =
      let x = (name-word (a-name-here s ts lexed i n).form n).1 in
      one i j (name_token (token_at ts i).text) ls (seen ts i is_name_lem refl n) (λ m. record { kind = sym x m; text = (token_at ts i).text }) z t

  whole-number : (i j : ℕ) (ls : List Lexeme) → kind_at ts i ≡ k_literal → j ≡ i + 1 → Tail ts j ls
      → Tail ts i (literal_token (int_literal (decimal 0 (token_at ts i).text)) ∷ ls)
  whole-number i j ls e z t =
      let h = seen-kind ts i k_literal refl e in
      let x = copied (token-here s ts lexed i h) e in
      one i j _ ls h (λ n. record { kind = e n; text = sym x n }) z t

  fixed_number : (i j : ℕ) (ls : List Lexeme) → kind_at ts i ≡ k_fixed_literal → j ≡ i + 1 → Tail ts j ls
      → Tail ts i (literal_token (fixed_literal (thousandths_of_lem (token_at ts i).text)) ∷ ls)
  fixed_number i j ls e z t =
      let h = seen-kind ts i k_fixed_literal refl e in
      let x = copied-fixed (token-here s ts lexed i h) e in
      one i j _ ls h (λ n. record { kind = e n; text = sym x n }) z t

  an-element : (i j : ℕ) {t : Element} (ls : List Lexeme) → DerivesElement ts i t → j ≡ i + 1 → Tail ts j ls → Tail ts i
      (element_token t ∷ ls)
  an-element i j ls (an_int e) z t = put i j k_int ls refl e z t
  an-element i j ls (a-boolean e) z t = put i j k_boolean ls refl e z t
  an-element i j ls (a-class e) z t = name i j ls e z t

  more_of : {ls ms : List Lexeme} (i : ℕ) → WithPairs ls ms → Tail ts i ms → Tail ts i ls
  more_of i p t = record { tokens = joined p t.tokens }

  -- TREES

  -- the tokens of t, in a place that wants class k, with pairs put in
  abbrev Holds : {s : Sort} → Kind s → ℕ → ℕ → Part s → Type 0
  Holds k i j t = (rest : List Lexeme) → Tail ts j rest → Tail ts i (print_in k t rest)

  module _ {σ : Sort} (k : Kind σ) (i j : ℕ) (t : Part σ) (e : tightness k ≡ 0) where
    -- where all forms fit
    whole : Holds k i j t → (rest : List Lexeme) → Tail ts j rest → Tail ts i (bare t rest)
    whole h rest x = subst (Tail ts i) (bared k t rest e) (h rest x)

    whole_of : ((rest : List Lexeme) → Tail ts j rest → Tail ts i (bare t rest)) → Holds k i j t
    whole_of h rest x = subst (Tail ts i) (sym (bared k t rest e)) (h rest x)

  lower : (k l : Kind expression) (i j : ℕ) (e : Expression) → tightness k ≤ tightness l → Holds l i j e → Holds k i j e
  lower k l i j e w h rest x = more_of i (fewer k l e rest w) (h rest x)

  of-operate : (p : Place) (L : Level) (o : Operator) (l r : Expression) (i m j : ℕ) → OperatorAt L (kind_at ts m) o
      → Holds (Kind.operation L) i m l → Holds (operand L) (m + 1) j r → Holds (Kind.operation L) i j (binary p o l r)
  unfolding bare
  of-operate p L o l r i m j q =
      subst
      (λ (L : Level). Holds (Kind.operation L) i m l → Holds (operand L) (m + 1) j r → Holds (Kind.operation L) i j (binary p o l r))
      q.level go
    where
      go : Holds (Kind.operation (level_of o)) i m l → Holds (operand (level_of o)) (m + 1) j r
          → Holds (Kind.operation (level_of o)) i j (binary p o l r)
      go h₁ h₂ rest x =
          rw (own-fits (level_of o)) (h₁ _ (put m (m + 1) (kind_of o) _ (operator-spelled o) q.kind refl (h₂ rest x)))

  pub holds : {s : Sort} {k : Kind s} {i j : ℕ} {t : Part s} → Derives ts s k i j t → Holds k i j t
  unfolding bare
  holds (operate {L = L} {i = i} {m = m} {j = j} {o = o} {l = l} {r = r} d e d₁) =
      of-operate (place_at ts i m) L o l r i m j (operator-at L (kind_at ts m) e) (holds d) (holds d₁)
  holds (one-operand {L = L} {i = i} {j = j} {e = e} d) =
      lower (Kind.operation L) (operand L) i j e (operand-next L) (holds d)
  holds (negate {i = i} {j = j} {e = x} e d) = λ rest h. put i (i + 1) k_not _ refl e refl (holds d rest h)
  holds (no-negation {i = i} {j = j} {e = e} d) = lower Kind.unary Kind.postfix i j e (omega arith) (holds d)
  holds (make-array {i = i} {j = j} {e = x} e de e₁ d e₂) =
      λ rest h.
      put i (i + 1) k_new _ refl e refl
      (an-element (i + 1) (i + 2) _ de (omega arith) (put (i + 2) (i + 3) k_open_bracket _ refl e₁ (omega arith)
      (whole an_expression (i + 3) j x refl (holds d) _ (put j (j + 1) k_close_bracket rest refl e₂ refl h))))
  holds (no-array {i = i} {j = j} {e = e} d) = lower Kind.postfix Kind.indexable i j e (omega arith) (holds d)
  holds (index {i = i} {m = m} {j = j} {a = a} {e = x} d e d₁ e₁) =
      λ rest h.
      holds d _ (put m (m + 1) k_open_bracket _ refl e refl
      (whole an_expression (m + 1) j x refl (holds d₁) _ (put j (j + 1) k_close_bracket rest refl e₁ refl h)))
  holds (take-length {i = i} {m = m} {a = a} d e e₁) =
      λ rest h. holds d _ (put m (m + 1) k_dot _ refl e refl (put (m + 1) (m + 2) k_length rest refl e₁ (omega arith) h))
  holds (invoke {i = i} {m = m} {j = j} {e = x} {es = es} d e e₁ e₂ d₁ e₃) =
      λ rest h.
      holds d _ (put m (m + 1) k_dot _ refl e refl (name (m + 1) (m + 2) _ e₁ (omega arith)
      (put (m + 2) (m + 3) k_open _ refl e₂ (omega arith)
      (whole Kind.argument_list (m + 3) j es refl (holds d₁) _ (put j (j + 1) k_close rest refl e₃ refl h)))))
  holds (no-suffix {i = i} {j = j} {e = e} d) = lower Kind.indexable Kind.primary i j e (omega arith) (holds d)
  holds (a-literal {i = i} e) = λ rest h. whole-number i (i + 1) rest e refl h
  holds (a-fixed-literal {i = i} e) = λ rest h. fixed_number i (i + 1) rest e refl h
  holds (a-true {i = i} e) = λ rest h. put i (i + 1) k_true rest refl e refl h
  holds (a-false {i = i} e) = λ rest h. put i (i + 1) k_false rest refl e refl h
  holds (a-name {i = i} e) = λ rest h. name i (i + 1) rest e refl h
  holds (a-this {i = i} e) = λ rest h. put i (i + 1) k_this rest refl e refl h
  holds (make-object {i = i} e e₁ e₂ e₃) =
      λ rest h.
      put i (i + 1) k_new _ refl e refl (name (i + 1) (i + 2) _ e₁ (omega arith) (put (i + 2) (i + 3) k_open _ refl e₂ (omega arith)
      (put (i + 3) (i + 4) k_close rest refl e₃ (omega arith) h)))
  holds (get-register {i = i} {j = j} {e = x} e e₁ e₂ e₃ d e₄) =
      λ rest h.
      put i (i + 1) k_port _ refl e refl (put (i + 1) (i + 2) k_dot _ refl e₁ (omega arith) (put (i + 2) (i + 3) k_get _ refl e₂ (omega arith)
      (put (i + 3) (i + 4) k_open _ refl e₃ (omega arith)
      (whole an_expression (i + 4) j x refl (holds d) _ (put j (j + 1) k_close rest refl e₄ refl h)))))
  holds (parentheses {i = i} {j = j} {e = x} e d e₁) =
      λ rest h.
      more_of i (shed Kind.primary x rest) (put i (i + 1) k_open _ refl e refl
      (whole an_expression (i + 1) j x refl (holds d) _ (put j (j + 1) k_close rest refl e₁ refl h)))
  holds none-given = λ rest h. h
  holds (some-given {i = i} {j = j} {es = es} d) =
      whole_of Kind.argument_list i j es refl (whole Kind.some_arguments_lem i j es refl (holds d))
  holds (one_argument {i = i} {j = j} {e = x} d) = λ rest h. whole an_expression i j x refl (holds d) rest h
  holds (more-arguments {i = i} {m = m} {j = j} {e = x} {es = es} d e ds) =
      λ rest h.
      rw (commas ds x rest) (whole an_expression i m x refl (holds d) _ (put m (m + 1) k_comma _ refl e refl
      (whole Kind.some_arguments_lem (m + 1) j es refl (holds ds) rest h)))
  holds (a_block {i = i} {j = j} {ss = ss} e d e₁) =
      λ rest h.
      put i (i + 1) k_open_brace _ refl e refl
      (whole Kind.statement_list (i + 1) j ss refl (holds d) _ (put j (j + 1) k_close_brace rest refl e₁ refl h))
  holds (an-if {i = i} {j = j} {k = n} {n = m} {e = x} {s = s} {t = t} e e₁ d e₂ d₁ e₃ d₂) =
      λ rest h.
      put i (i + 1) k_if _ refl e refl (put (i + 1) (i + 2) k_open _ refl e₁ (omega arith)
      (whole an_expression (i + 2) j x refl (holds d) _ (put j (j + 1) k_close _ refl e₂ refl
      (whole Kind.a_statement (j + 1) n s refl (holds d₁) _ (put n (n + 1) k_else _ refl e₃ refl
      (whole Kind.a_statement (n + 1) m t refl (holds d₂) rest h))))))
  holds (a-while {i = i} {j = j} {k = n} {e = x} {s = s} e e₁ d e₂ d₁) =
      λ rest h.
      put i (i + 1) k_while _ refl e refl (put (i + 1) (i + 2) k_open _ refl e₁ (omega arith)
      (whole an_expression (i + 2) j x refl (holds d) _ (put j (j + 1) k_close _ refl e₂ refl
      (whole Kind.a_statement (j + 1) n s refl (holds d₁) rest h))))
  holds (a-print {i = i} {j = j} {e = x} e e₁ e₂ e₃ e₄ e₅ d e₆ e₇) =
      λ rest h.
      put i (i + 1) k_system _ refl e refl
      (put (i + 1) (i + 2) k_dot _ refl e₁ (omega arith) (put (i + 2) (i + 3) k_out _ refl e₂ (omega arith)
      (put (i + 3) (i + 4) k_dot _ refl e₃ (omega arith) (put (i + 4) (i + 5) k_println _ refl e₄ (omega arith)
      (put (i + 5) (i + 6) k_open _ refl e₅ (omega arith) (whole an_expression (i + 6) j x refl (holds d) _
      (put j (j + 1) k_close _ refl e₆ refl (put (j + 1) (j + 2) k_semicolon rest refl e₇ (omega arith) h))))))))
  holds (an-assignment {i = i} {j = j} {e = x} e e₁ d e₂) =
      λ rest h.
      name i (i + 1) _ e refl (put (i + 1) (i + 2) k_assign _ refl e₁ (omega arith)
      (whole an_expression (i + 2) j x refl (holds d) _ (put j (j + 1) k_semicolon rest refl e₂ refl h)))
  holds (an-element-assignment {i = i} {j = j} {k = k} {n = n} {e = x} e e₁ d e₂ e₃ d₁ e₄) =
      λ rest h.
      name i (i + 1) _ e refl (put (i + 1) (i + 2) k_open_bracket _ refl e₁ (omega arith)
      (whole an_expression (i + 2) j n refl (holds d) _ (put j (j + 1) k_close_bracket _ refl e₂ refl
      (put (j + 1) (j + 2) k_assign _ refl e₃ (omega arith)
      (whole an_expression (j + 2) k x refl (holds d₁) _ (put k (k + 1) k_semicolon rest refl e₄ refl h))))))
  holds (put-register {i = i} {j = j} {k = k} {n = n} {e = x} e e₁ e₂ e₃ d e₄ d₁ e₅ e₆) =
      λ rest h.
      put i (i + 1) k_port _ refl e refl (put (i + 1) (i + 2) k_dot _ refl e₁ (omega arith) (put (i + 2) (i + 3) k_put _ refl e₂ (omega arith)
      (put (i + 3) (i + 4) k_open _ refl e₃ (omega arith) (whole an_expression (i + 4) j n refl (holds d) _
      (put j (j + 1) k_comma _ refl e₄ refl (whole an_expression (j + 1) k x refl (holds d₁) _
      (put k (k + 1) k_close _ refl e₅ refl (put (k + 1) (k + 2) k_semicolon rest refl e₆ (omega arith) h))))))))
  holds no-statement = λ rest h. h
  holds (more-statements {i = i} {m = m} {j = j} {s = s} {ss = ss} d ds) =
      λ rest h.
      whole Kind.a_statement i m s refl (holds d) _ (whole Kind.statement_list m j ss refl (holds ds) rest h)

  -- DECLARATIONS

  of-type : {i j : ℕ} {t : TypeUse} → DerivesType ts i j t → (rest : List Lexeme) → Tail ts j rest → Tail ts i (type_tokens t.type rest)
  unfolding type_tokens
  of-type (an-array {i = i} d e e₁) rest h =
      an-element i (i + 1) _ d refl (put (i + 1) (i + 2) k_open_bracket _ refl e (omega arith)
      (put (i + 2) (i + 3) k_close_bracket rest refl e₁ (omega arith) h))
  of-type (no-mark {i = i} d) rest h = an-element i (i + 1) rest d refl h
  of-type (a-fixed {i = i} e) rest h = put i (i + 1) k_fixed rest refl e refl h

  of-variable : {i j : ℕ} {v : Variable} → DerivesVariable ts i j v → (rest : List Lexeme) → Tail ts j rest → Tail ts i
      (declaration_tokens v rest)
  of-variable (a-variable {j = j} d e) rest h = of-type d _ (name j (j + 1) rest e refl h)

  of-variables : {i j : ℕ} {vs : List Variable} → DerivesVariables ts i j vs → (rest : List Lexeme) → Tail ts j rest
      → Tail ts i (declarations_tokens vs rest)
  unfolding declarations_tokens
  of-variables no-variable rest h = h
  of-variables (more-variables {m = m} d e ds) rest h =
      of-variable d _ (put m (m + 1) k_semicolon _ refl e refl (of-variables ds rest h))

  -- a comma stands before what is not empty
  parameter-comma : {i j : ℕ} {vs : List Variable} → DerivesParameters ts i j vs → (v : Variable) (rest : List Lexeme)
      → parameters_tokens (v ∷ vs) rest ≡ declaration_tokens v (spelt k_comma ∷ parameters_tokens vs rest)
  unfolding parameters_tokens
  parameter-comma (one-parameter d) v rest = refl
  parameter-comma (more-parameters d e ds) v rest = refl

  of-parameters : {i j : ℕ} {vs : List Variable} → DerivesParameters ts i j vs → (rest : List Lexeme) → Tail ts j rest
      → Tail ts i (parameters_tokens vs rest)
  unfolding parameters_tokens
  of-parameters (one-parameter d) rest h = of-variable d rest h
  of-parameters (more-parameters {m = m} {v = v} d e ds) rest h =
      rw (parameter-comma ds v rest) (of-variable d _ (put m (m + 1) k_comma _ refl e refl (of-parameters ds rest h)))

  of-formals : {i j : ℕ} {vs : List Variable} → DerivesFormals ts i j vs → (rest : List Lexeme) → Tail ts j rest
      → Tail ts i (parameters_tokens vs rest)
  unfolding parameters_tokens
  of-formals no-formal rest h = h
  of-formals (some-formals d) rest h = of-parameters d rest h

  of-method : {i j : ℕ} {m : Method} → DerivesMethod ts i j m → (rest : List Lexeme) → Tail ts j rest → Tail ts i (method_tokens m rest)
  of-method (a-method {i = i} {a = a} {b = b} {c = c} {d = d} {e = e} {ss = ss} {v = v} q dh q₁ dp q₂ q₃ dl ds q₄ dv q₅ q₆) rest h =
      put i (i + 1) k_public _ refl q refl (of-variable dh _ (put a (a + 1) k_open _ refl q₁ refl (of-formals dp _
      (put b (b + 1) k_close _ refl q₂ refl (put (b + 1) (b + 2) k_open_brace _ refl q₃ (omega arith) (of-variables dl _
      (whole Kind.statement_list c d ss refl (holds ds) _ (put d (d + 1) k_return _ refl q₄ refl
      (whole an_expression (d + 1) e v refl (holds dv) _ (put e (e + 1) k_semicolon _ refl q₅ refl
      (put (e + 1) (e + 2) k_close_brace rest refl q₆ (omega arith) h)))))))))))

  of-methods : {i j : ℕ} {ms : List Method} → DerivesMethods ts i j ms → (rest : List Lexeme) → Tail ts j rest → Tail ts i
      (methods_tokens ms rest)
  unfolding methods_tokens
  of-methods no-method rest h = h
  of-methods (more-methods d ds) rest h = of-method d _ (of-methods ds rest h)

  of-parent : {i j : ℕ} {o : Option Name} → DerivesParent ts i j o → (rest : List Lexeme) → Tail ts j rest → Tail ts i (parent_tokens o rest)
  of-parent no-parent rest h = h
  of-parent (a-parent {i = i} e e₁) rest h = put i (i + 1) k_extends _ refl e refl (name (i + 1) (i + 2) rest e₁ (omega arith) h)

  of-class : {i j : ℕ} {c : Class} → DerivesClass ts i j c → (rest : List Lexeme) → Tail ts j rest → Tail ts i (class_tokens c rest)
  of-class (a-class-declaration {i = i} {a = a} {c = c} e e₁ dp e₂ df dm e₃) rest h =
      put i (i + 1) k_class _ refl e refl (name (i + 1) (i + 2) _ e₁ (omega arith) (of-parent dp _ (put a (a + 1) k_open_brace _ refl e₂ refl
      (of-variables df _ (of-methods dm _ (put c (c + 1) k_close_brace rest refl e₃ refl h))))))

  of-classes : {i j : ℕ} {cs : List Class} → DerivesClasses ts i j cs → (rest : List Lexeme) → Tail ts j rest → Tail ts i
      (classes_tokens cs rest)
  unfolding classes_tokens
  of-classes no-class rest h = h
  of-classes (more-classes d ds) rest h = of-class d _ (of-classes ds rest h)

  -- past the last token there is nothing
  nothing_left : Tail ts (length ts) []
  nothing_left =
      record {
        tokens =
            subst (WithPairs []) (sym (ap (map lexeme) (empty (drop (length ts) ts) (omega (arith, length-drop (length ts) ts)))))
            as-they-are;
      }
    where
      empty : (us : List Token) → length us ≡ 0 → us ≡ []
      empty [] e = refl
      empty (u ∷ us) e = absurd (omega arith)

  of-program : {p : Program} → DerivesProgram ts p → Tail ts 0 (program_tokens p)
  unfolding program_tokens
  of-program (a_program {j = j} {s = x} {cs = cs} h d e e₁ ds) =
      put 0 1 k_class _ refl h.at0 refl (name 1 2 _ h.at1 refl (put 2 3 k_open_brace _ refl h.at2 refl
      (put 3 4 k_public _ refl h.at3 refl (put 4 5 k_static _ refl h.at4 refl (put 5 6 k_void _ refl h.at5 refl
      (put 6 7 k_main _ refl h.at6 refl (put 7 8 k_open _ refl h.at7 refl (put 8 9 k_string _ refl h.at8 refl
      (put 9 10 k_open_bracket _ refl h.at9 refl (put 10 11 k_close_bracket _ refl h.at10 refl (name 11 12 _ h.at11 refl
      (put 12 13 k_close _ refl h.at12 refl (put 13 14 k_open_brace _ refl h.at13 refl
      (whole Kind.a_statement 14 j x refl (holds d) _ (put j (j + 1) k_close_brace _ refl e refl
      (put (j + 1) (j + 2) k_close_brace _ refl e₁ (omega arith) (of-classes ds [] nothing_left)))))))))))))))))

  -- The tokens that a program is derived from are its printed ones, with pairs put in.
  pub only-pairs-put : {p : Program} → DerivesProgram ts p → WithPairs (program_tokens p) (map lexeme ts)
  only-pairs-put {p} d = subst (λ (us : List Token). WithPairs (program_tokens p) (map lexeme us)) (sym (drop-none ts))
      (of-program d).tokens

  -- So these are no more.
  pub few : {p : Program} → DerivesProgram ts p → length (program_tokens p) ≤ length ts
  few d = omega (arith, no-fewer (only-pairs-put d), length-map ts lexeme)
