-- What the look-up in the table of operators returns meets its contract: the kind of a token tells the operator, a line tells the result.
use Prim.Native.Nat.{ℕ}
use mathlib.Core.Path.{◌≡◌, refl, sym, ap, ◌∙◌, subst}
use mathlib.Core.List.{List, [], ◌∷◌}
use lib.Dec.{eqb}
use Rattle.base.specs.Choice.{if◌then◌otherwise◌}
use Rattle.lexer.specs.Kinds.{k_and, k_less, k_plus, k_minus, k_times}
use Rattle.lexer.specs.Tokens.{Token}
use Rattle.parser.specs.Tree.{Operator, Operator.and, Operator.less, Operator.plus, Operator.minus, Operator.times}
use Rattle.parser.specs.Tree.{Element.int, Element.fixed, Ty, Ty.plain}
use Rattle.reader.specs.promises.Matches.{operator_kind}
use Rattle.typesystem.specs.Operators.{line, result_in, operation}
use Rattle.lookup.specs.promises.HeldClasses.{Lexemes, no_type, code-int, code-boolean, code_fixed, Codes, code-plain, int_number, boolean_number, number_of_fixed}
use Rattle.lookup.specs.promises.Lookups.{LookedUp, untyped, typed}
use Rattle.lookup.specs.laws.HeldLaws.{same_codes, other-codes}
use Rattle.bodies.specs.promises.OperatorPost.{LinePost, has-line, no_line, NumericPost, int-line, fixed-line, OperationPost}

-- the operator of a kind
operator_of : ℕ → Operator
operator_of k =
    if eqb k k_and then (λ _. and) otherwise λ _.
    if eqb k k_less then (λ _. less) otherwise λ _.
    if eqb k k_plus then (λ _. plus) otherwise λ _.
    if eqb k k_minus then (λ _. minus) otherwise λ _.
    times

of-kind : (o : Operator) → operator_of (operator_kind o) ≡ o
unfolding operator_of
of-kind and = refl
of-kind less = refl
of-kind plus = refl
of-kind minus = refl
of-kind times = refl

-- a table of one line
one_line : {tab : List ℕ} {n : ℕ} {ts : List Token} → Lexemes tab n ts → {want result : Ty} {left w x r : ℕ} → Codes ts want w
    → Codes ts result x
    → LinePost left w x r → (t : Ty) → Codes ts t left → LookedUp ts (λ (u : Ty). u) (result_in (line want result ∷ []) t) r
unfolding result_in
one_line lx c d (has-line e) t h = rw (same_codes lx c h (sym e)) (typed d)
one_line lx c d (no_line f) t h = rw (other-codes lx c h (λ e. f (sym e))) (untyped refl)

-- a table of the lines for int and for fixed
two-lines : {tab : List ℕ} {n : ℕ} {ts : List Token} → Lexemes tab n ts → {of_int ofFixed : Ty} {left x y r : ℕ} → Codes ts of_int x
    → Codes ts ofFixed y → NumericPost left x y r → (t : Ty) → Codes ts t left
    → LookedUp ts (λ (u : Ty). u) (result_in (line (plain int) of_int ∷ line (plain fixed) ofFixed ∷ []) t) r
unfolding result_in
two-lines lx c d (int-line e) t h = rw (same_codes lx (code-plain (code-int refl)) h (sym e)) (typed c)
two-lines lx c d (fixed-line f l) t h =
    rw (other-codes lx (code-plain (code-int refl)) h (λ e. f (sym e))) (one_line lx (code-plain (code_fixed refl)) d l t h)

module _ {k left r : ℕ} where
  -- the answer for one operator
  only : (o : Operator) → k ≡ operator_kind o
      → ((tab : List ℕ) (n : ℕ) (ts : List Token) → Lexemes tab n ts → (t : Ty) → Codes ts t left
      → LookedUp ts (λ (u : Ty). u) (operation o t) r)
      → OperationPost k left r
  only o is f =
      record {
        says = λ tab n ts lx o' is' t c.
            subst (λ (x : Operator). LookedUp ts (λ (u : Ty). u) (operation x t) r)
            (sym (of-kind o) ∙ ap operator_of (sym is ∙ is') ∙ of-kind o')
            (f tab n ts lx t c);
      }

  pub conjoined : k ≡ k_and → LinePost left boolean_number boolean_number r → OperationPost k left r
  conjoined is f = only and is (λ tab n ts lx t c. one_line lx (code-plain (code-boolean refl)) (code-plain (code-boolean refl)) f t c)

  pub compared : k ≡ k_less → NumericPost left boolean_number boolean_number r → OperationPost k left r
  compared is f = only less is (λ tab n ts lx t c. two-lines lx (code-plain (code-boolean refl)) (code-plain (code-boolean refl)) f t c)

  pub added : k ≡ k_plus → NumericPost left int_number number_of_fixed r → OperationPost k left r
  added is f = only plus is (λ tab n ts lx t c. two-lines lx (code-plain (code-int refl)) (code-plain (code_fixed refl)) f t c)

  pub subtracted : k ≡ k_minus → NumericPost left int_number number_of_fixed r → OperationPost k left r
  subtracted is f = only minus is (λ tab n ts lx t c. two-lines lx (code-plain (code-int refl)) (code-plain (code_fixed refl)) f t c)

  pub multiplied : k ≡ k_times → NumericPost left int_number number_of_fixed r → OperationPost k left r
  multiplied is f = only times is (λ tab n ts lx t c. two-lines lx (code-plain (code-int refl)) (code-plain (code_fixed refl)) f t c)

pub no-operator : {k left : ℕ} → (k ≡ k_and → ⊥) → (k ≡ k_less → ⊥) → (k ≡ k_plus → ⊥) → (k ≡ k_minus → ⊥) → (k ≡ k_times → ⊥) → OperationPost k left no_type
no-operator {k} {left} n₁ n₂ n₃ n₄ n₅ = record { says = λ tab n ts lx o is t c. absurd (go o is) }
  where
    go : (o : Operator) → k ≡ operator_kind o → ⊥
    go and is = n₁ is
    go less is = n₂ is
    go plus is = n₃ is
    go minus is = n₄ is
    go times is = n₅ is
