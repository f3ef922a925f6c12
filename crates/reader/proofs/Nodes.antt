-- A node of any kind taken apart as the code takes it: up to three parts, of which those that it lacks are empty lists, and the columns
-- in which they lie.
use Prim.Native.Nat.{ℕ, ◌+◌}
use mathlib.Core.Path.{◌≡◌, refl, sym, ap, ◌∙◌}
use mathlib.Core.List.{List}
use mathlib.Core.Logic.{◌≢◌}
use mathlib.Core.Bool.{Bool, true, false}
use mathlib.Core.Option.{none}
use native.Mathlib.Omega.{arith}
use lib.Dec.{eqb}
use borrow.Author.Tests.{eqb-false}
use Rattle.base.specs.promises.Table.{col, c_begin, c_first, c_second, c_third}
use Rattle.lexer.specs.Kinds.{k_dot, k_if, k_open_brace, is_name_lem}
use Rattle.lexer.specs.Tokens.{Token}
use Rattle.parser.specs.Tree.{Place, Operator, Operator.and, Operator.less, Operator.plus, Operator.minus, Operator.times, Sort, Sort.expression, Sort.arguments, Sort.statement, Part}
use Rattle.parser.specs.Tree.{Part.literal, Part.truth, Part.variable, Part.this, Part.new_array_lem, Part.new_object_lem, Part.negation, Part.binary, Part.element, Part.array_length, Part.call, Part.port_get_lem, Part.no_arguments, Part.argument}
use Rattle.parser.specs.Tree.{Part.block, Part.conditional, Part.loop, Part.print, Part.assign, Part.assign_element_lem, Part.port_put_lem, Part.no_statements, Part.sequence}
use Rattle.parser.specs.Tree.{Numeral, Numeral.int_literal, Numeral.fixed_literal}
use Rattle.parser.specs.Stream.{kind_at}
use Rattle.parser.specs.promises.Layout.{absent, row_of}
use Rattle.parser.specs.Measure.{nodes, least, deep_here, deep}
use Rattle.grammar.specs.laws.Passing as Passing
use Rattle.reader.specs.promises.Holds.{NodeRow, Holds}
use Rattle.reader.specs.promises.Matches.{truth_kind, operator_kind, NumeralMatches, Matches}
use Rattle.reader.specs.promises.WalkPost.{Ordered, is_list, Sound}
use Rattle.reader.proofs.Depths.{least-assoc, least-absent}

-- KINDS

-- whether a kind is another, where it is known, that of a name, of an operator, of a truth value or of a literal
known : {k q : ℕ} (r : ℕ) → k ≡ q → eqb q r ≡ eqb k r
known r e = sym (ap (λ (x : ℕ). eqb x r) e)

name-kinds : (k : ℕ) → is_name_lem k ≡ true → (false ≡ eqb k k_if) × (false ≡ eqb k k_open_brace) × (false ≡ eqb k k_dot)
unfolding is_name_lem
name-kinds k e = (sym (Passing.kinds-apart is_name_lem k k_if e refl), sym (Passing.kinds-apart is_name_lem k k_open_brace e refl), sym (Passing.kinds-apart is_name_lem k k_dot e refl))

operator-kinds : (o : Operator)
    → (false ≡ eqb (operator_kind o) k_if) × (false ≡ eqb (operator_kind o) k_open_brace) × (false ≡ eqb (operator_kind o) k_dot)
operator-kinds and = (refl, refl, refl)
operator-kinds less = (refl, refl, refl)
operator-kinds plus = (refl, refl, refl)
operator-kinds minus = (refl, refl, refl)
operator-kinds times = (refl, refl, refl)

truth-kinds : (b : Bool) → false ≡ eqb (truth_kind b) k_if
truth-kinds true = refl
truth-kinds false = refl

numeral-kinds : (ts : List Token) (i : ℕ) (n : Numeral) → NumeralMatches ts i n → false ≡ eqb (kind_at ts i) k_if
unfolding NumeralMatches
numeral-kinds ts i (int_literal n) m = known k_if m.0.is
numeral-kinds ts i (fixed_literal n) m = known k_if m.0.is

pub true-false : true ≡ false → ⊥
true-false e = let z : ◌≡◌ {A = ℕ} 0 1 = cc in omega arith

-- THE PARTS OF A NODE

no-nodes : nodes no_arguments ≡ 0
unfolding nodes
no-nodes = refl

no-depth : (d : ℕ) → deep d no_arguments ≡ none
unfolding deep
no-depth d = refl

-- where a node begins, its three parts, where they lie, and what it is made of
pub record Apart (tab : List ℕ) (ts : List Token) {s : Sort} (t : Part s) : Type 0 where
  pub place : Place
  pub s₁ : Sort
  pub s₂ : Sort
  pub s₃ : Sort
  pub t₁ : Part s₁
  pub t₂ : Part s₂
  pub t₃ : Part s₃
  pub begins : col tab c_begin (row_of t) ≡ place.start
  pub first : col tab c_first (row_of t) ≡ row_of t₁
  pub second : col tab c_second (row_of t) ≡ row_of t₂
  pub sound₁ : Sound tab ts place.start (eqb (kind_at ts (row_of t)) k_open_brace) t₁
  pub sound₂ : Sound tab ts place.start (eqb (kind_at ts (row_of t)) k_dot) t₂
  pub sound₃ : Sound tab ts place.start false t₃
  pub third : kind_at ts (row_of t) ≡ k_if → col tab c_third (row_of t) ≡ row_of t₃
  pub fewer : kind_at ts (row_of t) ≢ k_if → (nodes t₃ ≡ 0) × ((d : ℕ) → deep d t₃ ≡ none)
  pub depth : (d : ℕ) → deep d t ≡ least (deep_here d place) (least (least (deep (d + 1) t₁) (deep (d + 1) t₂)) (deep (d + 1) t₃))
  pub size : nodes t ≡ 1 + (nodes t₁ + nodes t₂ + nodes t₃)

module _ {tab : List ℕ} {ts : List Token} where
  -- a part that is not there
  empty : (low : ℕ) (chain : Bool) → Sound tab ts low chain no_arguments
  unfolding Holds Matches Ordered
  empty low chain = record { chained = λ h. absurd (omega arith); holds = tt; matches = tt; ordered = tt }

  -- a part of a known sort
  pub sound : {s : Sort} {t : Part s} {low : ℕ} {chain : Bool} → is_list s ≡ chain → Holds tab t → Matches ts t → Ordered low t
      → Sound tab ts low chain t
  sound e h m o = record { chained = λ _. e; holds = h; matches = m; ordered = o }

  -- a node of two parts, of one, of none
  two : {s s₁ s₂ : Sort} (t : Part s) (p : Place) (t₁ : Part s₁) (t₂ : Part s₂) → row_of t ≡ p.row → NodeRow tab p (row_of t₁) (row_of t₂)
      → false ≡ eqb (kind_at ts p.row) k_if
      → Sound tab ts p.start (eqb (kind_at ts p.row) k_open_brace) t₁ → Sound tab ts p.start (eqb (kind_at ts p.row) k_dot) t₂
      → ((d : ℕ) → deep d t ≡ least (deep_here d p) (least (deep (d + 1) t₁) (deep (d + 1) t₂))) → nodes t ≡ 1 + (nodes t₁ + nodes t₂)
      → Apart tab ts t
  two {s} {s₁} {s₂} t p t₁ t₂ e h n f g dp sz =
      record {
        place = p;
        s₁ = s₁;
        s₂ = s₂;
        s₃ = arguments;
        t₁ = t₁;
        t₂ = t₂;
        t₃ = no_arguments;
        begins = ap (col tab c_begin) e ∙ h.start;
        first = ap (col tab c_first) e ∙ h.first;
        second = ap (col tab c_second) e ∙ h.second;
        sound₁ = rw e f;
        sound₂ = rw e g;
        sound₃ = empty p.start false;
        third = λ q. absurd (eqb-false (kind_at ts p.row) k_if (sym n) (ap (kind_at ts) (sym e) ∙ q));
        fewer = λ _. (no-nodes, no-depth);
        depth = λ d. dp d ∙ ap (least (deep_here d p)) (least-absent (least (deep (d + 1) t₁) (deep (d + 1) t₂)) (deep (d + 1) no_arguments) (no-depth (d + 1)));
        size = omega (arith, sz, no-nodes);
      }

  one : {s s₁ : Sort} (t : Part s) (p : Place) (t₁ : Part s₁) → row_of t ≡ p.row → NodeRow tab p (row_of t₁) absent
      → false ≡ eqb (kind_at ts p.row) k_if
      → Sound tab ts p.start (eqb (kind_at ts p.row) k_open_brace) t₁
      → ((d : ℕ) → deep d t ≡ least (deep_here d p) (deep (d + 1) t₁)) → nodes t ≡ 1 + nodes t₁
      → Apart tab ts t
  one t p t₁ e h n f dp sz =
      two t p t₁ no_arguments e h n f (empty _ _)
      (λ d. dp d ∙ ap (least (deep_here d p)) (least-absent (deep (d + 1) t₁) (deep (d + 1) no_arguments) (no-depth (d + 1))))
      (omega (arith, sz, no-nodes))

  zero-parts : {s : Sort} (t : Part s) (p : Place) → row_of t ≡ p.row → NodeRow tab p absent absent → false ≡ eqb (kind_at ts p.row) k_if
      → ((d : ℕ) → deep d t ≡ deep_here d p) → nodes t ≡ 1 → Apart tab ts t
  zero-parts t p e h n dp sz =
      one t p no_arguments e h n (empty _ _)
      (λ d. dp d ∙ least-absent (deep_here d p) (deep (d + 1) no_arguments) (no-depth (d + 1)))
      (omega (arith, sz, no-nodes))

  pub apart : {s : Sort} (t : Part s) (low : ℕ) → is_list s ≡ false → Holds tab t → Matches ts t → Ordered low t → Apart tab ts t
  unfolding Holds Matches Ordered deep nodes
  apart (literal p n) low e h m o = zero-parts (literal p n) p refl h (numeral-kinds ts p.row n m) (λ d. refl) refl
  apart (truth p b) low e h m o = zero-parts (truth p b) p refl h (truth-kinds b ∙ known k_if m.is) (λ d. refl) refl
  apart (variable p x) low e h m o = zero-parts (variable p x) p refl h (name-kinds _ m.named).0 (λ d. refl) refl
  apart (this p) low e h m o = zero-parts (this p) p refl h (known k_if m.is) (λ d. refl) refl
  apart (new_array_lem p u x) low e h m o =
      one (new_array_lem p u x) p x refl h.0 (known k_if m.0.is) (sound (known k_open_brace m.0.is) h.1 m.4 o.1) (λ d. refl) refl
  apart (new_object_lem p c) low e h m o = zero-parts (new_object_lem p c) p refl h (known k_if m.0.is) (λ d. refl) refl
  apart (negation p x) low e h m o =
      one (negation p x) p x refl h.0 (known k_if m.0.is) (sound (known k_open_brace m.0.is) h.1 m.1 o.1) (λ d. refl) refl
  apart (binary p q l r) low e h m o =
      two (binary p q l r) p l r refl h.0 ((operator-kinds q).0 ∙ known k_if m.0.is)
      (sound ((operator-kinds q).1 ∙ known k_open_brace m.0.is) h.1 m.1 o.1)
      (sound ((operator-kinds q).2 ∙ known k_dot m.0.is) h.2 m.2 o.2) (λ d. refl) (omega arith)
  apart (element p a i) low e h m o =
      two (element p a i) p a i refl h.0 (known k_if m.0.is)
      (sound (known k_open_brace m.0.is) h.1 m.1 o.1) (sound (known k_dot m.0.is) h.2 m.2 o.2) (λ d. refl) (omega arith)
  apart (array_length p a) low e h m o =
      one (array_length p a) p a refl h.0 (known k_if m.0.is) (sound (known k_open_brace m.0.is) h.1 m.2 o.1) (λ d. refl) refl
  apart (call p x f es) low e h m o =
      two (call p x f es) p x es refl h.0 (known k_if m.0.is)
      (sound (known k_open_brace m.0.is) h.1 m.3 o.1) (sound (known k_dot m.0.is) h.2 m.4 o.2) (λ d. refl) (omega arith)
  apart (port_get_lem p x) low e h m o =
      one (port_get_lem p x) p x refl h.0 (known k_if m.0.is) (sound (known k_open_brace m.0.is) h.1 m.1 o.1) (λ d. refl) refl
  apart no_arguments low e h m o = absurd (true-false e)
  apart (argument x es) low e h m o = absurd (true-false e)
  apart (block p ss) low e h m o =
      one (block p ss) p ss refl h.0 (known k_if m.0.is) (sound (known k_open_brace m.0.is) h.1 m.1 o.1) (λ d. refl) refl
  apart (conditional p x s t) low e h m o =
      record {
        place = p;
        s₁ = expression;
        s₂ = statement;
        s₃ = statement;
        t₁ = x;
        t₂ = s;
        t₃ = t;
        begins = h.0.start;
        first = h.0.first;
        second = h.0.second;
        sound₁ = sound (known k_open_brace m.0.is) h.2 m.1 o.1;
        sound₂ = sound (known k_dot m.0.is) h.3 m.2 o.2;
        sound₃ = sound refl h.4 m.3 o.3;
        third = λ _. h.1;
        fewer = λ n. absurd (n m.0.is);
        depth = λ d. ap (least (deep_here d p)) (least-assoc (deep (d + 1) x) (deep (d + 1) s) (deep (d + 1) t));
        size = omega arith;
      }
  apart (loop p x s) low e h m o =
      two (loop p x s) p x s refl h.0 (known k_if m.0.is)
      (sound (known k_open_brace m.0.is) h.1 m.1 o.1) (sound (known k_dot m.0.is) h.2 m.2 o.2) (λ d. refl) (omega arith)
  apart (print p x) low e h m o =
      one (print p x) p x refl h.0 (known k_if m.0.is) (sound (known k_open_brace m.0.is) h.1 m.1 o.1) (λ d. refl) refl
  apart (assign p x v) low e h m o =
      one (assign p x v) p v refl h.0 (name-kinds _ m.0.named).0
      (sound (name-kinds _ m.0.named).1 h.1 m.2 o.1) (λ d. refl) refl
  apart (assign_element_lem p x i v) low e h m o =
      two (assign_element_lem p x i v) p i v refl h.0 (name-kinds _ m.0.named).0
      (sound (name-kinds _ m.0.named).1 h.1 m.2 o.1)
      (sound (name-kinds _ m.0.named).2 h.2 m.3 o.2) (λ d. refl) (omega arith)
  apart (port_put_lem p x v) low e h m o =
      two (port_put_lem p x v) p x v refl h.0 (known k_if m.0.is)
      (sound (known k_open_brace m.0.is) h.1 m.1 o.1) (sound (known k_dot m.0.is) h.2 m.2 o.2) (λ d. refl) (omega arith)
  apart no_statements low e h m o = absurd (true-false e)
  apart (sequence s ss) low e h m o = absurd (true-false e)
