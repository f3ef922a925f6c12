-- The digits that are written for a value are a literal of that value, and a literal's own bytes are those.
use Rattle.std.specs.Prelude.{ℕ, zero, suc, ◌+◌, ◌*◌, ◌-◌, ◌/◌, ◌%◌, ◌≤◌, ◌<◌, ◌≡◌, refl, List, [], ◌∷◌, ◌++◌, Bool, true, false, ◌&&◌, eqb, ltb, leb, length, get_or, drop}
use Rattle.std.proofs.Common.{sym, ap, ◌∙◌, subst, arith, le-leb, le-ltb, ltb-true, ltb-false, ne_eqb, length-append}
use Rattle.std.proofs.Math.Seq.{drop-append-add}
use Rattle.base.specs.All.{All, all_nil, all_cons}
use Rattle.base.specs.Choice.{if◌then◌otherwise◌}
use Rattle.base.specs.Codes.{literal_most}
use Rattle.base.specs.Word.{per_unit}
use Rattle.base.specs.laws.Lists.{all_append}
use Rattle.base.specs.laws.Tests.{and-false}
use Rattle.lexer.specs.Bytes.{b_zero, b_nine, b_dot, is_digit_lem}
use Rattle.lexer.specs.Kinds.{k_literal, k_fixed_literal, is_name_lem}
use Rattle.lexer.specs.Tokens.{Token, decimal, starts_with_zero_lem, whole_digits, fraction_digits, thousandths_of_lem}
use Rattle.lexer.proofs.laws.ItemLaws.{Digits, run-stop, with-point}
use Rattle.lexer.proofs.laws.RowLaws.{FixedText, TokenOf}
use Rattle.lexer.proofs.laws.LiteralLaws.{Literal, equal-value, equal-count, literal-of}
use Rattle.printing.specs.Printed.{Lexeme, digits_of, digits, fixed_digits, literal_token, separator}
use Rattle.printing.proofs.laws.Lexing.{Taken, separated, number-item, fixed-item}
use Rattle.parser.specs.Tree.{Numeral, Numeral.int_literal, Numeral.fixed_literal}

-- ---- digits of a number

decimal-append : (h : ℕ) (xs : List ℕ) (d : ℕ) → decimal h (xs ++ d ∷ []) ≡ decimal h xs * 10 + (d - b_zero)
unfolding decimal
decimal-append h [] d = refl
decimal-append h (x ∷ xs) d = decimal-append (h * 10 + (x - b_zero)) xs d

value_of : (f n : ℕ) → n < f → decimal 0 (digits_of f n) ≡ n
unfolding decimal digits_of
value_of zero n l = absurd (omega arith)
value_of (suc f) n l = go (ltb n 10) refl (value_of f (n / 10))
  where
    go : (b : Bool) → ltb n 10 ≡ b → (n / 10 < f → decimal 0 (digits_of f (n / 10)) ≡ n / 10)
        → decimal 0 (if b then (λ _. (b_zero + n) ∷ []) otherwise λ _. digits_of f (n / 10) ++ (b_zero + n % 10) ∷ []) ≡ n
    go true e h = omega arith
    go false e h =
        let q = ltb-false n 10 e in
        decimal-append 0 (digits_of f (n / 10)) (b_zero + n % 10) ∙ omega (arith, h (omega arith))

pub value : (n : ℕ) → decimal 0 (digits n) ≡ n
unfolding digits
value n = value_of (suc n) n (omega arith)

a-digit : (d : ℕ) → d < 10 → is_digit_lem (b_zero + d) ≡ true
unfolding is_digit_lem
a-digit d l = rw (le-leb b_zero (b_zero + d) (omega arith), le-leb (b_zero + d) b_nine (omega arith))

all_digits : (f n : ℕ) → Digits (digits_of f n)
unfolding digits_of
all_digits zero n = all_nil
all_digits (suc f) n = go (ltb n 10) refl (all_digits f (n / 10))
  where
    go : (b : Bool) → ltb n 10 ≡ b → Digits (digits_of f (n / 10))
        → Digits (if b then (λ _. (b_zero + n) ∷ []) otherwise λ _. digits_of f (n / 10) ++ (b_zero + n % 10) ∷ [])
    go true e h = all_cons (a-digit n (ltb-true n 10 e)) all_nil
    go false e h = all_append h (all_cons (a-digit (n % 10) (omega arith)) all_nil)

some-digit : (f n : ℕ) → 0 < length (digits_of (suc f) n)
unfolding digits_of
some-digit f n = go (ltb n 10)
  where
    go : (b : Bool) → 0 < length (if b then (λ _. (b_zero + n) ∷ []) otherwise λ _. digits_of f (n / 10) ++ (b_zero + n % 10) ∷ [])
    go true = omega arith
    go false = omega (arith, length-append (digits_of f (n / 10)) ((b_zero + n % 10) ∷ []))

first_of : (xs ys : List ℕ) → 0 < length xs → get_or (xs ++ ys) 0 0 ≡ get_or xs 0 0
first_of [] ys l = absurd (omega arith)
first_of (x ∷ xs) ys l = refl

-- the first digit of a number that is not 0 is not 0
first-digit : (f n : ℕ) → 0 < n → n < f → b_zero < get_or (digits_of f n) 0 0
unfolding digits_of
first-digit zero n p l = absurd (omega arith)
first-digit (suc zero) n p l = absurd (omega arith)
first-digit (suc (suc f)) n p l = go (ltb n 10) refl (first-digit (suc f) (n / 10))
  where
    go : (b : Bool) → ltb n 10 ≡ b → (0 < n / 10 → n / 10 < suc f → b_zero < get_or (digits_of (suc f) (n / 10)) 0 0)
        → b_zero < get_or (if b then (λ _. (b_zero + n) ∷ []) otherwise λ _. digits_of (suc f) (n / 10) ++ (b_zero + n % 10) ∷ []) 0 0
    go true e h = omega arith
    go false e h =
        let q = ltb-false n 10 e in
        rw (first_of (digits_of (suc f) (n / 10)) ((b_zero + n % 10) ∷ []) (some-digit f (n / 10))) (h (omega arith) (omega arith))

no-leading-zero : (n : ℕ) → starts_with_zero_lem (digits n) ≡ false
unfolding digits digits_of
no-leading-zero n = go (ltb n 10) refl
  where
    go : (b : Bool) → ltb n 10 ≡ b
        → starts_with_zero_lem (if b then (λ _. (b_zero + n) ∷ []) otherwise λ _. digits_of n (n / 10) ++ (b_zero + n % 10) ∷ []) ≡ false
    go true e = refl
    go false e =
        let q = ltb-false n 10 e in
        let xs : List ℕ = digits_of n (n / 10) in
        let ys : List ℕ = (b_zero + n % 10) ∷ [] in
        let h = first-digit n (n / 10) (omega arith) (omega arith) in
        let s : 0 < length xs = some n (omega arith) in
        rw (first_of xs ys s, ne_eqb (get_or xs 0 0) b_zero (λ z. omega arith)) (and-false (ltb 1 (length (xs ++ ys))))
      where
        some : (f : ℕ) → 0 < f → 0 < length (digits_of f (n / 10))
        some zero l = absurd (omega arith)
        some (suc f) l = some-digit f (n / 10)

pub digits-literal : (n : ℕ) → Literal (digits n)
unfolding digits
digits-literal n = record { digits = all_digits (suc n) n; nonempty = some-digit n n; no_zero = no-leading-zero n }

-- A literal of int is the digits of its value: its bytes can be copied.
pub copied : {s : List ℕ} {t : Token} → TokenOf s t → t.kind ≡ k_literal → digits (decimal 0 t.text) ≡ t.text
copied {t = t} o k =
    let n = decimal 0 t.text in
    equal-value (digits n) t.text (digits-literal n) (literal-of o k) (value n)

-- ---- thousandths

fraction : ℕ → List ℕ
fraction n = (b_zero + n % per_unit / 100) ∷ (b_zero + n % 100 / 10) ∷ (b_zero + n % 10) ∷ []

fraction-digits : (n : ℕ) → Digits (fraction n)
unfolding fraction
fraction-digits n =
    all_cons (a-digit (n % per_unit / 100) (omega arith))
    (all_cons (a-digit (n % 100 / 10) (omega arith)) (all_cons (a-digit (n % 10) (omega arith)) all_nil))

whole_of : (n : ℕ) → whole_digits (digits (n / per_unit) ++ b_dot ∷ fraction n) ≡ digits (n / per_unit)
unfolding is_digit_lem
whole_of n = run-stop is_digit_lem (digits (n / per_unit)) b_dot (fraction n) (digits-literal (n / per_unit)).digits refl

fraction-of : (n : ℕ) → fraction_digits (digits (n / per_unit) ++ b_dot ∷ fraction n) ≡ fraction n
fraction-of n =
    let w = digits (n / per_unit) in
    ap (λ (v : List ℕ). drop (length v + 1) (w ++ b_dot ∷ fraction n)) (whole_of n) ∙ drop-append-add w (b_dot ∷ fraction n) 1

pub count : (n : ℕ) → thousandths_of_lem (fixed_digits n) ≡ n
unfolding thousandths_of_lem fixed_digits fraction decimal
count n =
    let w = digits (n / per_unit) in
    (λ j. decimal (decimal 0 (whole_of n j)) (fraction-of n j))
    ∙ ap (λ (h : ℕ). decimal h (fraction n)) (value (n / per_unit))
    ∙ parts
  where
    parts : ((n / per_unit * 10 + (b_zero + n % per_unit / 100 - b_zero)) * 10 + (b_zero + n % 100 / 10 - b_zero)) * 10
        + (b_zero + n % 10 - b_zero) ≡ n
    parts = omega arith

pub thousandths-text : (n : ℕ) → n ≤ literal_most → FixedText (fixed_digits n)
unfolding fixed_digits fraction
thousandths-text n l =
    let q = digits-literal (n / per_unit) in
    record {
      pointed = with-point (digits (n / per_unit)) (fraction n) q.nonempty q.digits (fraction-digits n);
      no_zero = ap starts_with_zero_lem (whole_of n) ∙ q.no_zero;
      three = ap length (fraction-of n);
      small = omega (arith, count n);
    }

-- A literal of fixed is the thousandths that it counts.
pub copied-fixed : {s : List ℕ} {t : Token} → TokenOf s t → t.kind ≡ k_fixed_literal → fixed_digits (thousandths_of_lem t.text) ≡ t.text
copied-fixed {t = t} o k =
    let n = thousandths_of_lem t.text in
    let f = o.fixed k in
    equal-count (fixed_digits n) t.text (thousandths-text n f.small) f (count n)

-- ---- the lexer takes them

pub number-taken : (n : ℕ) → n ≤ literal_most → Taken (literal_token (int_literal n))
unfolding is_name_lem is_digit_lem
number-taken n l =
    let q = digits-literal n in
    record {
      nonempty = q.nonempty;
      reads = λ i r.
          let c = separator k_literal in
          number-item i c r (separated (λ (c : ℕ). is_digit_lem c ≡ false) refl refl k_literal)
          (separated (λ (c : ℕ). eqb c b_dot ≡ false) refl refl k_literal) (digits n) q.nonempty q.digits;
      not-long = refl;
      no_zero = rw q.no_zero;
      three = refl;
      small = rw (le-ltb literal_most (decimal 0 (digits n)) (omega (arith, value n)));
    }

pub thousandths-taken : (n : ℕ) → n ≤ literal_most → Taken (literal_token (fixed_literal n))
unfolding is_name_lem is_digit_lem fixed_digits fraction
thousandths-taken n l =
    let q = digits-literal (n / per_unit) in
    let t = thousandths-text n l in
    record {
      nonempty = omega (arith, length-append (digits (n / per_unit)) (b_dot ∷ fraction n));
      reads = λ i r.
          let c = separator k_fixed_literal in
          fixed-item i c r (separated (λ (c : ℕ). is_digit_lem c ≡ false) refl refl k_fixed_literal)
          (separated (λ (c : ℕ). eqb c b_dot ≡ false) refl refl k_fixed_literal)
          (digits (n / per_unit)) (fraction n) q.nonempty (omega arith) q.digits (fraction-digits n);
      not-long = refl;
      no_zero = rw t.no_zero;
      three = rw t.three;
      small = rw (le-ltb literal_most (thousandths_of_lem (fixed_digits n)) t.small);
    }
