-- The grammar derives from the printed tokens of a tree a tree that is equal but for positions.
use Prim.Native.Nat.{ℕ, zero, suc, ◌+◌, ◌-◌, ◌≤◌}
use Rattle.std.specs.Prelude.{◌≡◌, refl, Bool, true, false, length, get_or, drop}
use Rattle.std.proofs.Common.{sym, ◌∙◌, subst, arith, leb-true, le-leb, length-drop, drop-drop, get_or-drop}
use Rattle.std.proofs.Math.Path.{ap}
use mathlib.Core.List.{List, [], ◌∷◌, map}
use Rattle.std.proofs.Math.Option.{some}
use Rattle.std.proofs.Math.ListN.{get_or-map}
use Rattle.lexer.specs.Tokens.{Token, decimal, thousandths_of_lem}
use Rattle.lexer.specs.Kinds.{is_name_lem}
use Rattle.parser.specs.Tree.{Place, Name, Operator, Operator.and, Operator.less, Operator.plus, Operator.minus, Operator.times}
use Rattle.parser.specs.Tree.{Sort, Sort.expression, Sort.arguments, Sort.statement, Sort.statements, Part, Expression, Statement}
use Rattle.parser.specs.Tree.{ElementUse, Element, Element.int, Element.boolean, Element.fixed, Element.class}
use Rattle.parser.specs.Tree.{Numeral.int_literal, Numeral.fixed_literal}
use Rattle.parser.specs.Tree.{Part.literal, Part.truth, Part.variable, Part.this, Part.new_array_lem, Part.new_object_lem, Part.negation, Part.binary}
use Rattle.parser.specs.Tree.{Part.element, Part.array_length, Part.call, Part.port_get_lem, Part.no_arguments, Part.argument}
use Rattle.parser.specs.Tree.{Part.block, Part.conditional, Part.loop, Part.print, Part.assign, Part.assign_element_lem, Part.port_put_lem}
use Rattle.parser.specs.Tree.{Part.no_statements, Part.sequence}
use Rattle.parser.specs.Stream.{no_more, token_at, kind_at, operator_of, Level.conjunction, Level.comparison, Level.sum, Level.product}
use Rattle.parser.specs.Grammar.{operand, an_expression, DerivesElement, an_int, a-boolean, a-class}
use Rattle.parser.specs.Grammar.{Kind, Derives, operate, one-operand, negate, no-negation, make-array, no-array, index, take-length, invoke}
use Rattle.parser.specs.Grammar.{no-suffix, a-literal, a-fixed-literal, a-true, a-false, a-name, a-this, make-object, get-register}
use Rattle.parser.specs.Grammar.{parentheses, none-given, some-given, one_argument, more-arguments, a_block, an-if, a-while, a-print}
use Rattle.parser.specs.Grammar.{an-assignment, an-element-assignment, put-register, no-statement, more-statements}
use Rattle.printing.specs.Printed.{Lexeme, element_token, level_of, kind_of, own, tightness, reaches, bracketed, bare, print_in}
use Rattle.printing.specs.Same.{erase, erase_element, unplaced, no_place}
use Rattle.printing.proofs.laws.Lexing.{lexeme}
use Rattle.printing.proofs.laws.Digits.{value, count}
use Rattle.printing.proofs.laws.Fitting.{Nameable, FitElement, Lexable}

-- THE CLASSES IN A ROW

class_at : ℕ → Kind expression
class_at zero = Kind.operation conjunction
class_at (suc zero) = Kind.operation comparison
class_at (suc (suc zero)) = Kind.operation sum
class_at (suc (suc (suc zero))) = Kind.operation product
class_at (suc (suc (suc (suc zero)))) = Kind.unary
class_at (suc (suc (suc (suc (suc zero))))) = Kind.postfix
class_at (suc (suc (suc (suc (suc (suc zero)))))) = Kind.indexable
class_at (suc (suc (suc (suc (suc (suc (suc n))))))) = Kind.primary

class-rank : (k : Kind expression) → class_at (tightness k) ≡ k
unfolding class_at
class-rank (Kind.operation conjunction) = refl
class-rank (Kind.operation comparison) = refl
class-rank (Kind.operation sum) = refl
class-rank (Kind.operation product) = refl
class-rank Kind.unary = refl
class-rank Kind.postfix = refl
class-rank Kind.indexable = refl
class-rank Kind.primary = refl

drop-map : {A B : Type 0} (f : A → B) (n : ℕ) (l : List A) → map f (drop n l) ≡ drop n (map f l)
drop-map f zero [] = refl
drop-map f zero (x ∷ l) = refl
drop-map f (suc n) [] = refl
drop-map f (suc n) (x ∷ l) = drop-map f n l

-- the tokens from i to the last are these
pub record From (ts : List Token) (i : ℕ) (ls : List Lexeme) : Type 0 where
  pub are : map lexeme (drop i ts) ≡ ls
  pub count : i + length ls ≡ length ts

module _ {ts : List Token} where
  lexeme-at : {i : ℕ} {ls : List Lexeme} → From ts i ls → (n : ℕ) → lexeme (token_at ts (i + n)) ≡ get_or ls n (lexeme no_more)
  lexeme-at {i} {ls} f n =
      ap lexeme (sym (get_or-drop i ts n no_more)) ∙ sym (get_or-map lexeme (drop i ts) n no_more)
      ∙ ap (λ (l : List Lexeme). get_or l n (lexeme no_more)) f.are

  pub kind-at : {i : ℕ} {ls : List Lexeme} → From ts i ls → (n : ℕ) → kind_at ts (i + n) ≡ (get_or ls n (lexeme no_more)).kind
  kind-at f n = ap (λ (l : Lexeme). l.kind) (lexeme-at f n)

  pub text_at : {i : ℕ} {ls : List Lexeme} → From ts i ls → (n : ℕ) → (token_at ts (i + n)).text ≡ (get_or ls n (lexeme no_more)).text
  text_at f n = ap (λ (l : Lexeme). l.text) (lexeme-at f n)

  pub kind : {i : ℕ} {ls : List Lexeme} → From ts i ls → kind_at ts i ≡ (get_or ls 0 (lexeme no_more)).kind
  kind {i} f = let z : i ≡ i + 0 = omega arith in ap (λ (n : ℕ). kind_at ts n) z ∙ kind-at f 0

  pub text : {i : ℕ} {ls : List Lexeme} → From ts i ls → (token_at ts i).text ≡ (get_or ls 0 (lexeme no_more)).text
  text {i} f = let z : i ≡ i + 0 = omega arith in ap (λ (n : ℕ). (token_at ts n).text) z ∙ text_at f 0

  pub skip : {i : ℕ} {ls : List Lexeme} (n : ℕ) → n ≤ length ls → From ts i ls → From ts (i + n) (drop n ls)
  skip {i} {ls} n h f = record {
    are = ap (map lexeme) (sym (drop-drop n i ts)) ∙ drop-map lexeme n (drop i ts) ∙ ap (drop n) f.are;
    count = omega (arith, f.count, length-drop n ls);
  }

-- CLIMBING

module _ (ts : List Token) where
  one_lower : (n : ℕ) {i j : ℕ} {e : Expression} → Derives ts expression (class_at (suc n)) i j e → Derives ts expression (class_at n) i j e
  unfolding class_at
  one_lower zero d = one-operand d
  one_lower (suc zero) d = one-operand d
  one_lower (suc (suc zero)) d = one-operand d
  one_lower (suc (suc (suc zero))) d = one-operand d
  one_lower (suc (suc (suc (suc zero)))) d = no-negation d
  one_lower (suc (suc (suc (suc (suc zero))))) d = no-array d
  one_lower (suc (suc (suc (suc (suc (suc zero)))))) d = no-suffix d
  one_lower (suc (suc (suc (suc (suc (suc (suc n))))))) d = d

  lower : (d n m : ℕ) {i j : ℕ} {e : Expression} → n + d ≡ m → Derives ts expression (class_at m) i j e
      → Derives ts expression (class_at n) i j e
  lower zero n m {i} {j} {e} q h = let z : m ≡ n = omega arith in subst (λ (n : ℕ). Derives ts expression (class_at n) i j e) z h
  lower (suc d) n m q h = one_lower n (lower d (suc n) m (omega arith) h)

  -- a form of a class stands where a class below is wanted
  pub climb : (k own : Kind expression) {i j : ℕ} {e : Expression} → reaches k own ≡ true → Derives ts expression own i j e
      → Derives ts expression k i j e
  climb k own {i} {j} {e} h d =
      let w = leb-true (tightness k) (tightness own) h in
      let f : Kind expression → Type 0 = λ k. Derives ts expression k i j e in
      subst f (class-rank k) (lower (tightness own - tightness k) (tightness k) (tightness own) (omega arith)
      (subst f (sym (class-rank own)) d))

  -- every class holds the primaries, and the class of all expressions every class
  primary-fits : (k : Kind expression) → reaches k Kind.primary ≡ true
  primary-fits (Kind.operation conjunction) = refl
  primary-fits (Kind.operation comparison) = refl
  primary-fits (Kind.operation sum) = refl
  primary-fits (Kind.operation product) = refl
  primary-fits Kind.unary = refl
  primary-fits Kind.postfix = refl
  primary-fits Kind.indexable = refl
  primary-fits Kind.primary = refl

  -- WHAT IS READ

  -- from token i on the grammar derives in class k a tree that is t up to positions, and `rest` is left
  pub record Found {s : Sort} (k : Kind s) (i : ℕ) (t : Part s) (rest : List Lexeme) : Type 0 where
    pub tree : Part s
    pub end : ℕ
    pub derived : Derives ts s k i end tree
    pub same : erase tree ≡ erase t
    pub after : From ts end rest

  raised : (k own : Kind expression) {i : ℕ} {e : Expression} {rest : List Lexeme} → reaches k own ≡ true → Found own i e rest
      → Found k i e rest
  raised k own h x = record { tree = x.tree; end = x.end; derived = climb k own h x.derived; same = x.same; after = x.after }

  -- in a place that wants class k, with parentheses where they are needed
  module _ (k : Kind expression) (e : Expression)
      (bare-found : (i : ℕ) (rest : List Lexeme) → From ts i (bare e rest) → Found (own e) i e rest) where
    pub whole : (i : ℕ) (rest : List Lexeme) → From ts i (bare e rest) → Found an_expression i e rest
    whole i rest f = raised an_expression (own e) (le-leb 0 (tightness (own e)) (omega arith)) (bare-found i rest f)

    placed : (i : ℕ) (rest : List Lexeme) → From ts i (print_in k e rest) → Found k i e rest
    placed i rest f = go (reaches k (own e)) refl f
      where
        go : (b : Bool) → reaches k (own e) ≡ b → From ts i (bracketed b (λ r. bare e r) rest) → Found k i e rest
        go true h f = raised k (own e) h (bare-found i rest f)
        go false h f =
            let x = whole (i + 1) _ (skip 1 (omega arith) f) in
            raised k Kind.primary (primary-fits k)
            (record {
              tree = x.tree;
              end = x.end + 1;
              derived = parentheses (kind f) x.derived (kind x.after);
              same = x.same;
              after = skip 1 (omega arith) x.after;
            })

  pub a-name-at : {k q : ℕ} → k ≡ q → is_name_lem q ≡ true → is_name_lem k ≡ true
  a-name-at e n = ap is_name_lem e ∙ n

  operator : (o : Operator) {k : ℕ} → k ≡ kind_of o → operator_of (level_of o) k ≡ some o
  unfolding operator_of
  operator and e = rw e
  operator less e = rw e
  operator plus e = rw e
  operator minus e = rw e
  operator times e = rw e

  -- there is one class of statements, and one of their lists
  pub stated : (k : Kind statement) {i : ℕ} {s : Statement} {rest : List Lexeme} → Found k i s rest → Found Kind.a_statement i s rest
  stated Kind.a_statement x = x

  pub in_order : (k : Kind statements) {i : ℕ} {ss : Part statements} {rest : List Lexeme} → Found k i ss rest
      → Found Kind.statement_list i ss rest
  in_order Kind.statement_list x = x

  listed : (k : Kind arguments) {i : ℕ} {es : Part arguments} {rest : List Lexeme} → Found k i es rest → Found Kind.argument_list i es rest
  listed Kind.argument_list x = x
  listed Kind.some_arguments_lem x = record { tree = x.tree; end = x.end; derived = some-given x.derived; same = x.same; after = x.after }

  abbrev pub Reads : {s : Sort} → Part s → Type 0
  Reads t = (i : ℕ) (rest : List Lexeme) → From ts i (bare t rest) → Found (own t) i t rest

  -- an element type is one token
  pub an-element : (j : ℕ) (t : Element) → FitElement t → kind_at ts j ≡ (element_token t).kind → (token_at ts j).text ≡ (element_token t).text
      → DerivesElement ts j t
  an-element j int w e q = an_int e
  an-element j boolean w e q = a-boolean e
  an-element j fixed w e q = absurd w
  an-element j (class x) w e q = subst (DerivesElement ts j) (ap class q) (a-class (a-name-at e w.name))

  of-new-array : (p : Place) (u : ElementUse) (e : Expression) → FitElement u.element → Reads e → Reads (new_array_lem p u e)
  unfolding bare erase
  of-new-array p u e w h₁ i rest f =
      let x = whole an_expression e h₁ (i + 3) _ (skip 3 (omega arith) f) in
      record {
        tree = _;
        end = x.end + 1;
        derived =
            make-array (kind f) (an-element (i + 1) u.element w (kind-at f 1) (text_at f 1)) (kind-at f 2) x.derived
            (kind x.after);
        same = ap (new_array_lem no_place (erase_element u)) x.same;
        after = skip 1 (omega arith) x.after;
      }

  of-negation : (p : Place) (e : Expression) → Reads e → Reads (negation p e)
  unfolding bare erase
  of-negation p e h₁ i rest f =
      let x = placed Kind.unary e h₁ (i + 1) _ (skip 1 (omega arith) f) in
      record { tree = _; end = x.end; derived = negate (kind f) x.derived; same = ap (negation no_place) x.same; after = x.after }

  of-binary : (p : Place) (o : Operator) (l : Expression) (r : Expression) → Reads l → Reads r → Reads (binary p o l r)
  unfolding bare erase
  of-binary p o l r h₁ h₂ i rest f =
      let x = placed (Kind.operation (level_of o)) l h₁ i _ f in
      let y = placed (operand (level_of o)) r h₂ (x.end + 1) _ (skip 1 (omega arith) x.after) in
      record {
        tree = _;
        end = y.end;
        derived = operate x.derived (operator o (kind x.after)) y.derived;
        same = rw (x.same, y.same);
        after = y.after;
      }

  of-element : (p : Place) (a : Expression) (n : Expression) → Reads a → Reads n → Reads (element p a n)
  unfolding bare erase
  of-element p a n h₁ h₂ i rest f =
      let x = placed Kind.indexable a h₁ i _ f in
      let y = whole an_expression n h₂ (x.end + 1) _ (skip 1 (omega arith) x.after) in
      record {
        tree = _;
        end = y.end + 1;
        derived = index x.derived (kind x.after) y.derived (kind y.after);
        same = rw (x.same, y.same);
        after = skip 1 (omega arith) y.after;
      }

  of-array-length : (p : Place) (a : Expression) → Reads a → Reads (array_length p a)
  unfolding bare erase
  of-array-length p a h₁ i rest f =
      let x = placed Kind.postfix a h₁ i _ f in
      record {
        tree = _;
        end = x.end + 2;
        derived = take-length x.derived (kind x.after) (kind-at x.after 1);
        same = ap (array_length no_place) x.same;
        after = skip 2 (omega arith) x.after;
      }

  of-call : (p : Place) (e : Expression) (m : Name) (es : Part arguments) → Nameable m.text → Reads e → Reads es → Reads (call p e m es)
  unfolding bare erase
  of-call p e m es k h₁ h₂ i rest f =
      let x = placed Kind.postfix e h₁ i _ f in
      let y = listed (own es) (h₂ (x.end + 3) _ (skip 3 (omega arith) x.after)) in
      record {
        tree = _;
        end = y.end + 1;
        derived =
            invoke x.derived (kind x.after) (a-name-at (kind-at x.after 1) k.name) (kind-at x.after 2) y.derived
            (kind y.after);
        same = rw (x.same, text_at x.after 1, y.same);
        after = skip 1 (omega arith) y.after;
      }

  of-get : (p : Place) (e : Expression) → Reads e → Reads (port_get_lem p e)
  unfolding bare erase
  of-get p e h₁ i rest f =
      let x = whole an_expression e h₁ (i + 4) _ (skip 4 (omega arith) f) in
      record {
        tree = _;
        end = x.end + 1;
        derived = get-register (kind f) (kind-at f 1) (kind-at f 2) (kind-at f 3) x.derived (kind x.after);
        same = ap (port_get_lem no_place) x.same;
        after = skip 1 (omega arith) x.after;
      }

  of-last-argument : (e : Expression) → Reads e → Reads (argument e no_arguments)
  unfolding bare erase
  of-last-argument e h₁ i rest f =
      let x = whole an_expression e h₁ i _ f in
      record {
        tree = _;
        end = x.end;
        derived = one_argument x.derived;
        same = ap (λ (e : Expression). argument e no_arguments) x.same;
        after = x.after;
      }

  of-more-arguments : (e : Expression) (a : Expression) (es : Part arguments) → Reads e → Reads (argument a es)
      → Reads (argument e (argument a es))
  unfolding bare erase
  of-more-arguments e a es h₁ h₂ i rest f =
      let x = whole an_expression e h₁ i _ f in
      let y = h₂ (x.end + 1) _ (skip 1 (omega arith) x.after) in
      record {
        tree = _;
        end = y.end;
        derived = more-arguments x.derived (kind x.after) y.derived;
        same = rw (x.same, y.same);
        after = y.after;
      }

  of-block : (p : Place) (ss : Part statements) → Reads ss → Reads (block p ss)
  unfolding bare erase
  of-block p ss h₁ i rest f =
      let x = in_order (own ss) (h₁ (i + 1) _ (skip 1 (omega arith) f)) in
      record {
        tree = _;
        end = x.end + 1;
        derived = a_block (kind f) x.derived (kind x.after);
        same = ap (block no_place) x.same;
        after = skip 1 (omega arith) x.after;
      }

  of-conditional : (p : Place) (e : Expression) (s : Statement) (t : Statement) → Reads e → Reads s → Reads t → Reads (conditional p e s t)
  unfolding bare erase
  of-conditional p e s t h₁ h₂ h₃ i rest f =
      let x = whole an_expression e h₁ (i + 2) _ (skip 2 (omega arith) f) in
      let y = stated (own s) (h₂ (x.end + 1) _ (skip 1 (omega arith) x.after)) in
      let z = stated (own t) (h₃ (y.end + 1) _ (skip 1 (omega arith) y.after)) in
      record {
        tree = _;
        end = z.end;
        derived = an-if (kind f) (kind-at f 1) x.derived (kind x.after) y.derived (kind y.after) z.derived;
        same = rw (x.same, y.same, z.same);
        after = z.after;
      }

  of-loop : (p : Place) (e : Expression) (s : Statement) → Reads e → Reads s → Reads (loop p e s)
  unfolding bare erase
  of-loop p e s h₁ h₂ i rest f =
      let x = whole an_expression e h₁ (i + 2) _ (skip 2 (omega arith) f) in
      let y = stated (own s) (h₂ (x.end + 1) _ (skip 1 (omega arith) x.after)) in
      record {
        tree = _;
        end = y.end;
        derived = a-while (kind f) (kind-at f 1) x.derived (kind x.after) y.derived;
        same = rw (x.same, y.same);
        after = y.after;
      }

  of-print : (p : Place) (e : Expression) → Reads e → Reads (print p e)
  unfolding bare erase
  of-print p e h₁ i rest f =
      let x = whole an_expression e h₁ (i + 6) _ (skip 6 (omega arith) f) in
      record {
        tree = _;
        end = x.end + 2;
        derived =
            a-print (kind f) (kind-at f 1) (kind-at f 2) (kind-at f 3) (kind-at f 4) (kind-at f 5) x.derived (kind x.after)
            (kind-at x.after 1);
        same = ap (print no_place) x.same;
        after = skip 2 (omega arith) x.after;
      }

  of-assign : (p : Place) (v : List ℕ) (e : Expression) → Nameable v → Reads e → Reads (assign p v e)
  unfolding bare erase
  of-assign p v e k h₁ i rest f =
      let x = whole an_expression e h₁ (i + 2) _ (skip 2 (omega arith) f) in
      record {
        tree = _;
        end = x.end + 1;
        derived = an-assignment (a-name-at (kind f) k.name) (kind-at f 1) x.derived (kind x.after);
        same = rw (x.same, text f);
        after = skip 1 (omega arith) x.after;
      }

  of-assign-element : (p : Place) (v : List ℕ) (n : Expression) (e : Expression) → Nameable v → Reads n → Reads e
      → Reads (assign_element_lem p v n e)
  unfolding bare erase
  of-assign-element p v n e k h₁ h₂ i rest f =
      let x = whole an_expression n h₁ (i + 2) _ (skip 2 (omega arith) f) in
      let y = whole an_expression e h₂ (x.end + 2) _ (skip 2 (omega arith) x.after) in
      record {
        tree = _;
        end = y.end + 1;
        derived =
            an-element-assignment (a-name-at (kind f) k.name) (kind-at f 1) x.derived (kind x.after) (kind-at x.after 1)
            y.derived (kind y.after);
        same = rw (x.same, y.same, text f);
        after = skip 1 (omega arith) y.after;
      }

  of-put : (p : Place) (n : Expression) (e : Expression) → Reads n → Reads e → Reads (port_put_lem p n e)
  unfolding bare erase
  of-put p n e h₁ h₂ i rest f =
      let x = whole an_expression n h₁ (i + 4) _ (skip 4 (omega arith) f) in
      let y = whole an_expression e h₂ (x.end + 1) _ (skip 1 (omega arith) x.after) in
      record {
        tree = _;
        end = y.end + 2;
        derived =
            put-register (kind f) (kind-at f 1) (kind-at f 2) (kind-at f 3) x.derived (kind x.after) y.derived (kind y.after)
            (kind-at y.after 1);
        same = rw (x.same, y.same);
        after = skip 2 (omega arith) y.after;
      }

  of-sequence : (s : Statement) (ss : Part statements) → Reads s → Reads ss → Reads (sequence s ss)
  unfolding bare erase
  of-sequence s ss h₁ h₂ i rest f =
      let x = stated (own s) (h₁ i _ f) in
      let y = in_order (own ss) (h₂ x.end _ x.after) in
      record { tree = _; end = y.end; derived = more-statements x.derived y.derived; same = rw (x.same, y.same); after = y.after }

  pub found : {s : Sort} (t : Part s) → Lexable t → Reads t
  unfolding bare erase
  found (literal p (int_literal n)) w = λ i rest f. record {
    tree = _;
    end = i + 1;
    derived = a-literal (kind f);
    same = ap (λ (v : ℕ). literal no_place (int_literal v)) (ap (decimal 0) (text f) ∙ value n);
    after = skip 1 (omega arith) f;
  }
  found (literal p (fixed_literal n)) w = λ i rest f. record {
    tree = _;
    end = i + 1;
    derived = a-fixed-literal (kind f);
    same = ap (λ (v : ℕ). literal no_place (fixed_literal v)) (ap thousandths_of_lem (text f) ∙ count n);
    after = skip 1 (omega arith) f;
  }
  found (truth p true) w =
      λ i rest f. record { tree = _; end = i + 1; derived = a-true (kind f); same = refl; after = skip 1 (omega arith) f }
  found (truth p false) w =
      λ i rest f. record { tree = _; end = i + 1; derived = a-false (kind f); same = refl; after = skip 1 (omega arith) f }
  found (variable p x) w = λ i rest f.
      record {
        tree = _;
        end = i + 1;
        derived = a-name (a-name-at (kind f) w.name);
        same = ap (variable no_place) (text f);
        after = skip 1 (omega arith) f;
      }
  found (this p) w = λ i rest f. record { tree = _; end = i + 1; derived = a-this (kind f); same = refl; after = skip 1 (omega arith) f }
  found (new_array_lem p u e) w = of-new-array p u e w.0 (found e w.1)
  found (new_object_lem p c) w = λ i rest f. record {
    tree = _;
    end = i + 4;
    derived = make-object (kind f) (a-name-at (kind-at f 1) w.name) (kind-at f 2) (kind-at f 3);
    same = ap (λ (x : List ℕ). new_object_lem no_place (unplaced x)) (text_at f 1);
    after = skip 4 (omega arith) f;
  }
  found (negation p e) w = of-negation p e (found e w)
  found (binary p o l r) w = of-binary p o l r (found l w.0) (found r w.1)
  found (element p a n) w = of-element p a n (found a w.0) (found n w.1)
  found (array_length p a) w = of-array-length p a (found a w)
  found (call p e m es) w = of-call p e m es w.1 (found e w.0) (found es w.2)
  found (port_get_lem p e) w = of-get p e (found e w)
  found no_arguments w = λ i rest f. record { tree = _; end = i; derived = none-given; same = refl; after = f }
  found (argument e no_arguments) w = of-last-argument e (found e w.0)
  found (argument e (argument a es)) w = of-more-arguments e a es (found e w.0) (found (argument a es) w.1)
  found (block p ss) w = of-block p ss (found ss w)
  found (conditional p e s t) w = of-conditional p e s t (found e w.0) (found s w.1) (found t w.2)
  found (loop p e s) w = of-loop p e s (found e w.0) (found s w.1)
  found (print p e) w = of-print p e (found e w)
  found (assign p v e) w = of-assign p v e w.0 (found e w.1)
  found (assign_element_lem p v n e) w = of-assign-element p v n e w.0 (found n w.1) (found e w.2)
  found (port_put_lem p n e) w = of-put p n e (found n w.0) (found e w.1)
  found no_statements w = λ i rest f. record { tree = _; end = i; derived = no-statement; same = refl; after = f }
  found (sequence s ss) w = of-sequence s ss (found s w.0) (found ss w.1)
