-- Document 02, (i): without leading zeros a literal's bytes are given by its value. Two literals have equal values exactly when they have
-- equal bytes; and so have two literals of fixed, (ix), by the thousandths that they count.
use Rattle.std.specs.Prelude.{ℕ, suc, ◌+◌, ◌*◌, ◌-◌, ◌≤◌, ◌<◌, List, [], ◌∷◌, ◌++◌, ◌≢◌, ◌↔◌, true, false, ◌≡◌, refl, length, eqb, ltb, leb}
use Rattle.std.proofs.Math.Decide.{dec_lt}
use Rattle.std.proofs.Common.{arith, sym, ap, ◌∙◌, leb-true, lt-ltb}
use Rattle.std.proofs.Math.Option.{some}
use Rattle.std.proofs.Math.ListN.{get_elem?}
use Rattle.std.proofs.lemmas.Bool.{eqb-false}
use Rattle.base.specs.All.{all_cons}
use Rattle.base.specs.Outcome.{accepted}
use Rattle.base.specs.laws.Tests.{and-true, and_right}
use Rattle.lexer.specs.Bytes.{b_zero, b_nine, b_dot, is_digit_lem}
use Rattle.lexer.specs.Kinds.{k_literal, k_fixed_literal}
use Rattle.lexer.specs.Tokens.{Token, decimal, starts_with_zero_lem, whole_digits, fraction_digits, thousandths_of_lem, tokens}
use Rattle.lexer.proofs.laws.ItemLaws.{Digits}
use Rattle.lexer.proofs.laws.RowLaws.{FixedText, TokenOf, token-of}

-- more digits only add to a value
pub decimal-grows : (high : ℕ) (ds : List ℕ) → high ≤ decimal high ds
unfolding decimal
decimal-grows high [] = omega arith
decimal-grows high (d ∷ ds) = omega (arith, decimal-grows (high * 10 + (d - b_zero)) ds)

pub digit-range : (d : ℕ) → is_digit_lem d ≡ true → (b_zero ≤ d) × (d ≤ b_nine)
unfolding is_digit_lem
digit-range d e = let q = and-true (leb b_zero d) (leb d b_nine) e in (leb-true b_zero d q.0, leb-true d b_nine q.1)

-- as many digits with an equal value, after values h and k, are the same digits after the same value
as_many : (ds es : List ℕ) (h k : ℕ) → Digits ds → Digits es → length ds ≡ length es → decimal h ds ≡ decimal k es → (h ≡ k) × (ds ≡ es)
unfolding decimal
as_many [] [] h k p q l v = (v, refl)
as_many [] (e ∷ es) h k p q l v = absurd (omega arith)
as_many (d ∷ ds) [] h k p q l v = absurd (omega arith)
as_many (d ∷ ds) (e ∷ es) h k (all_cons p ps) (all_cons q qs) l v =
    let r = as_many ds es (h * 10 + (d - b_zero)) (k * 10 + (e - b_zero)) ps qs (omega arith) v in
    let a = digit-range d p in
    let b = digit-range e q in
    let same : d ≡ e = omega (arith, r.0) in
    (omega (arith, r.0), λ j. same j ∷ r.1 j)

-- after a larger value, no fewer digits make a larger value
no-fewer : (ds es : List ℕ) (h k : ℕ) → Digits ds → length ds ≤ length es → h < k → decimal h ds < decimal k es
unfolding decimal
no-fewer [] es h k p l g = omega (arith, decimal-grows k es)
no-fewer (d ∷ ds) [] h k p l g = absurd (omega arith)
no-fewer (d ∷ ds) (e ∷ es) h k (all_cons p ps) l g =
    no-fewer ds es (h * 10 + (d - b_zero)) (k * 10 + (e - b_zero)) ps (omega arith) (omega (arith, digit-range d p))

-- the bytes of a literal
pub record Literal (ds : List ℕ) : Type 0 where
  pub digits : Digits ds
  pub nonempty : 0 < length ds
  pub no_zero : starts_with_zero_lem ds ≡ false

-- a longer literal has a larger value, since its first digit is not 0
longer : (ds es : List ℕ) → Literal ds → Literal es → length ds < length es → decimal 0 ds < decimal 0 es
unfolding decimal
longer ds [] p q l = absurd (omega arith)
longer ds (e ∷ es) p q l =
    let many : 1 < suc (length es) = omega (arith, p.nonempty) in
    let first : e ≢ b_zero =
    eqb-false e b_zero (and_right (ltb 1 (suc (length es))) (eqb e b_zero) q.no_zero (lt-ltb 1 (suc (length es)) many)) in
    no-fewer ds es 0 (0 * 10 + (e - b_zero)) p.digits (omega arith) (positive q.digits first)
  where
    positive : Digits (e ∷ es) → e ≢ b_zero → 0 < 0 * 10 + (e - b_zero)
    positive (all_cons d ds) n = omega (arith, digit-range e d)

pub equal-value : (ds es : List ℕ) → Literal ds → Literal es → decimal 0 ds ≡ decimal 0 es → ds ≡ es
equal-value ds es p q v =
    elim (dec_lt (length ds) (length es)) [
      | yes l ↦ absurd (omega (arith, longer ds es p q l))
      | no m ↦ elim (dec_lt (length es) (length ds)) [
        | yes l ↦ absurd (omega (arith, longer es ds q p l))
        | no n ↦ (as_many ds es 0 0 p.digits q.digits (omega arith) v).1
      ]
    ]

-- ---- literals of fixed

whole_of : {t : List ℕ} → FixedText t → Literal (whole_digits t)
whole_of f = record { digits = f.pointed.whole; nonempty = f.pointed.some-whole; no_zero = f.no_zero }

-- three digits each behind the point: as many, so these are equal and those before the point have equal values
pub equal-count : (t u : List ℕ) → FixedText t → FixedText u → thousandths_of_lem t ≡ thousandths_of_lem u → t ≡ u
unfolding thousandths_of_lem
equal-count t u f g v =
    let r =
    as_many (fraction_digits t) (fraction_digits u) (decimal 0 (whole_digits t)) (decimal 0 (whole_digits u))
    f.pointed.fraction g.pointed.fraction (f.three ∙ sym g.three) v in
    let w = equal-value (whole_digits t) (whole_digits u) (whole_of f) (whole_of g) r.0 in
    f.pointed.is ∙ (λ j. w j ++ b_dot ∷ r.1 j) ∙ sym g.pointed.is

-- ---- of sources

pub literal-of : {s : List ℕ} {t : Token} → TokenOf s t → t.kind ≡ k_literal → Literal t.text
literal-of o k = record { digits = o.digits k; nonempty = o.nonempty; no_zero = o.no_zero k }

-- two literals, of one accepted source or of two
pub literal-text : {s s' : List ℕ} {t u : Token} → TokenOf s t → TokenOf s' u → t.kind ≡ k_literal → u.kind ≡ k_literal
    → (decimal 0 t.text ≡ decimal 0 u.text) ↔ (t.text ≡ u.text)
literal-text {t = t} {u = u} o o' k k' = (λ v. equal-value t.text u.text (literal-of o k) (literal-of o' k') v, λ e. ap (decimal 0) e)

-- two literals of an accepted source
pub value-text : (s : List ℕ) (ts : List Token) → tokens s ≡ accepted ts → (i j : ℕ) (t u : Token)
    → get_elem? ts i ≡ some t → t.kind ≡ k_literal → get_elem? ts j ≡ some u → u.kind ≡ k_literal
    → (decimal 0 t.text ≡ decimal 0 u.text) ↔ (t.text ≡ u.text)
value-text s ts a i j t u et kt eu ku = literal-text (token-of s ts a i t et) (token-of s ts a j u eu) kt ku

-- two literals of fixed, of one accepted source or of two
pub fixed-text : {s s' : List ℕ} {t u : Token} → TokenOf s t → TokenOf s' u → t.kind ≡ k_fixed_literal → u.kind ≡ k_fixed_literal
    → (thousandths_of_lem t.text ≡ thousandths_of_lem u.text) ↔ (t.text ≡ u.text)
fixed-text {t = t} {u = u} o o' k k' = (λ v. equal-count t.text u.text (o.fixed k) (o'.fixed k') v, λ e. ap thousandths_of_lem e)

-- two literals of fixed of an accepted source
pub fixed-value-text : (s : List ℕ) (ts : List Token) → tokens s ≡ accepted ts → (i j : ℕ) (t u : Token)
    → get_elem? ts i ≡ some t → t.kind ≡ k_fixed_literal → get_elem? ts j ≡ some u → u.kind ≡ k_fixed_literal
    → (thousandths_of_lem t.text ≡ thousandths_of_lem u.text) ↔ (t.text ≡ u.text)
fixed-value-text s ts a i j t u et kt eu ku = fixed-text (token-of s ts a i t et) (token-of s ts a j u eu) kt ku
