-- The verdict on a token, case by case, and that a turn goes by it.
use Prim.Native.Nat.{ℕ, ◌+◌, ◌-◌, ◌≤◌, ◌<◌}
use native.Mathlib.Omega.{arith}
use mathlib.Core.List.{List, ◌∷◌}
use mathlib.Core.Logic.{◌≢◌}
use mathlib.Core.Bool.{Bool, true, false, ◌&&◌, ◌||◌, not}
use mathlib.Core.Path.{◌≡◌, refl, sym, ap, ◌∙◌, subst}
use lib.ListN.{length, take, drop, length-drop}
use lib.Seq.{length-take-le}
use lib.Dec.{eqb, ltb}
use borrow.Author.Tests.{lt-ltb, le-ltb, eq-eqb, ne_eqb, eqb-false}
use Rattle.base.specs.Choice.{if◌then◌otherwise◌}
use Rattle.base.specs.Codes.{tokens_most, name_most, literal_most, leading_zero, not_three_digits, literal_too_large, name_too_long, too_many_tokens}
use Rattle.base.specs.Outcome.{Outcome, accepted, refused, ◌>>=◌}
use Rattle.lexer.specs.Kinds.{k_literal, k_fixed_literal, is_name_lem}
use Rattle.lexer.specs.Tokens.{Token, token, decimal, starts_with_zero_lem, whole_digits, fraction_digits, thousandths_of_lem}
use Rattle.lexer.specs.Tokens.{exceeds_length, zero_first, not_three, too_large, turn}
use Rattle.base.specs.laws.Tests.{apart}
use Rattle.lexer.proofs.laws.ItemLaws.{kinds-apart}
use Rattle.lexer.specs.promises.Verdicts.{literal_of, on_literal, number_beside, verdict_of}
use Rattle.lexer.specs.promises.Chains.{Extended, Added}
use Rattle.lexer.specs.declared.limits.Entry.{Entry}
use Rattle.lexer.specs.declared.limits.Entry.TheVariants.{Name, Plain}
use Rattle.std.specs.Prelude.{Option as Found, Some, None, Result, Ok, Err}
use Rattle.base.specs.declared.refusal.Reason.{Reason}
use Rattle.base.specs.declared.refusal.Reason.TheVariants as reason
use Rattle.base.specs.declared.refusal.Refusal.{Refusal}
use Rattle.base.specs.promises.Refusals.{number_of}

-- ---- the verdict by the answers of the tests

-- of a literal: its leading zero, and its value; of one of fixed: its leading zero, the three digits behind its point, and its thousandths
abbrev verdict_by : (many name long literal fixed zero large zeroes three larger : Bool) → (value count : ℕ) → Result Entry Reason
verdict_by many name long literal fixed zero large zeroes three larger value count =
    if many then (λ _. Err reason.TooManyTokens) otherwise λ _.
    if name && long then (λ _. Err reason.NameTooLong) otherwise λ _.
    if literal && zero || fixed && zeroes then (λ _. Err reason.LeadingZero) otherwise λ _.
    if fixed && not three then (λ _. Err reason.NotThreeDigits) otherwise λ _.
    if literal && large || fixed && larger then (λ _. Err reason.LiteralTooLarge) otherwise λ _.
    if name then (λ _. Ok Name) otherwise λ _.
    Ok (Plain (if literal then (λ _. value) otherwise λ _. if fixed then (λ _. count) otherwise λ _. 0))

module _ (n k : ℕ) (t : List ℕ) where
  by_tests : {many name long literal fixed zero large zeroes three larger : Bool} → eqb n tokens_most ≡ many → is_name_lem k ≡ name
      → ltb name_most (length t) ≡ long → eqb k k_literal ≡ literal → eqb k k_fixed_literal ≡ fixed → starts_with_zero_lem t ≡ zero
      → ltb literal_most (decimal 0 t) ≡ large → starts_with_zero_lem (whole_digits t) ≡ zeroes → eqb (length (fraction_digits t)) 3 ≡ three
      → ltb literal_most (thousandths_of_lem t) ≡ larger
      → verdict_of n k t ≡ verdict_by many name long literal fixed zero large zeroes three larger (decimal 0 t) (thousandths_of_lem t)
  unfolding verdict_of
  by_tests a b c d e f g h l m =
      λ j. verdict_by (a j) (b j) (c j) (d j) (e j) (f j) (g j) (h j) (l j) (m j) (decimal 0 t) (thousandths_of_lem t)

  pub verdict-many : n ≡ tokens_most → Err reason.TooManyTokens ≡ verdict_of n k t
  verdict-many e = sym (by_tests (eq-eqb n tokens_most e) refl refl refl refl refl refl refl refl refl)

  -- b is what the test for a name answers
  module _ {b : Bool} (few : n ≢ tokens_most) (q : b ≡ is_name_lem k) where
    pub verdict-long : b ≡ true → name_most < length t → Err reason.NameTooLong ≡ verdict_of n k t
    verdict-long y g =
        sym (by_tests (ne_eqb n tokens_most few) (sym q ∙ y) (lt-ltb name_most (length t) g) refl refl refl refl refl refl refl)

    pub verdict-name : b ≡ true → length t ≤ name_most → Ok Name ≡ verdict_of n k t
    unfolding is_name_lem
    verdict-name y g =
        let named = sym q ∙ y in
        sym
        (by_tests
        (ne_eqb n tokens_most few)
        named
        (le-ltb name_most (length t) g)
        (kinds-apart is_name_lem k k_literal named refl)
        (kinds-apart is_name_lem k k_fixed_literal named refl)
        refl
        refl
        refl
        refl
        refl)

    -- the verdict on a kind that is no name's, by whether it is a literal's
    by-literal : {literal fixed zero : Bool} → b ≡ false → eqb k k_literal ≡ literal → eqb k k_fixed_literal ≡ fixed → starts_with_zero_lem t ≡ zero
        → verdict_of n k t
        ≡ verdict_by false false (ltb name_most (length t)) literal fixed zero (ltb literal_most (decimal 0 t)) (starts_with_zero_lem (whole_digits t))
        (eqb (length (fraction_digits t)) 3) (ltb literal_most (thousandths_of_lem t)) (decimal 0 t) (thousandths_of_lem t)
    by-literal y l f z = by_tests (ne_eqb n tokens_most few) (sym q ∙ y) refl l f z refl refl refl refl

    pub verdict-zero : {z : Bool} → b ≡ false → k ≡ k_literal → z ≡ starts_with_zero_lem t → z ≡ true → Err reason.LeadingZero ≡ verdict_of n k t
    verdict-zero y l p z = sym (by-literal y (eq-eqb k k_literal l) refl (sym p ∙ z))

    pub verdict-literal : {z : Bool} {v : Found ℕ} → b ≡ false → k ≡ k_literal → z ≡ starts_with_zero_lem t → z ≡ false → v ≡ literal_of (decimal 0 t)
        → on_literal v ≡ verdict_of n k t
    verdict-literal y l p z r =
        ap on_literal r
        ∙ on (ltb literal_most (decimal 0 t))
        ∙ sym (by-literal y (eq-eqb k k_literal l) (ap (λ (m : ℕ). eqb m k_fixed_literal) l) (sym p ∙ z))
      where
        on : (c : Bool) → on_literal (if c then (λ _. None) otherwise λ _. Some (decimal 0 t))
            ≡ verdict_by false false (ltb name_most (length t)) true false false c (starts_with_zero_lem (whole_digits t))
            (eqb (length (fraction_digits t)) 3) (ltb literal_most (thousandths_of_lem t)) (decimal 0 t) (thousandths_of_lem t)
        on true = refl
        on false = refl

    pub verdict-plain : b ≡ false → k ≢ k_literal → k ≢ k_fixed_literal → Ok (Plain 0) ≡ verdict_of n k t
    verdict-plain y d f = sym (by-literal y (ne_eqb k k_literal d) (ne_eqb k k_fixed_literal f) refl)

-- ---- the verdict on a literal of fixed

-- with few tokens their number does not matter
pub verdict-fixed : (n k : ℕ) (t : List ℕ) {b : Bool} {v : Result Entry Reason} → n ≢ tokens_most → b ≡ is_name_lem k → b ≡ false → k ≡ k_fixed_literal
    → v ≡ verdict_of 0 k_fixed_literal t → v ≡ verdict_of n k t
unfolding is_name_lem
verdict-fixed n k t few q y l e =
    e
    ∙ by_tests 0 k_fixed_literal t refl refl refl refl refl refl refl refl refl refl
    ∙ sym (by-literal n k t few q y (ap (λ (m : ℕ). eqb m k_literal) l) (eq-eqb k k_fixed_literal l) refl)

-- w is the part before the point
module _ (t : List ℕ) {w : List ℕ} (is : w ≡ whole_digits t) where
  by_parts : {zeroes three : Bool} → starts_with_zero_lem w ≡ zeroes → eqb (length (fraction_digits t)) 3 ≡ three
      → verdict_of 0 k_fixed_literal t
      ≡ verdict_by false false (ltb name_most (length t)) false true (starts_with_zero_lem t) (ltb literal_most (decimal 0 t)) zeroes three
      (ltb literal_most (thousandths_of_lem t)) (decimal 0 t) (thousandths_of_lem t)
  unfolding is_name_lem
  by_parts z e = by_tests 0 k_fixed_literal t refl refl refl refl refl refl refl (ap starts_with_zero_lem (sym is) ∙ z) e refl

  pub fixed_zero : {z : Bool} → z ≡ starts_with_zero_lem w → z ≡ true → Err reason.LeadingZero ≡ verdict_of 0 k_fixed_literal t
  fixed_zero p z = sym (by_parts (sym p ∙ z) refl)

  pub fixed-short : {z : Bool} → z ≡ starts_with_zero_lem w → z ≡ false → length (fraction_digits t) ≢ 3
      → Err reason.NotThreeDigits ≡ verdict_of 0 k_fixed_literal t
  fixed-short p z n = sym (by_parts (sym p ∙ z) (ne_eqb (length (fraction_digits t)) 3 n))

  pub fixed-counted : {z : Bool} {v : Found ℕ} → z ≡ starts_with_zero_lem w → z ≡ false → length (fraction_digits t) ≡ 3
      → v ≡ literal_of (thousandths_of_lem t) → on_literal v ≡ verdict_of 0 k_fixed_literal t
  fixed-counted p z e r =
      ap on_literal r
      ∙ on (ltb literal_most (thousandths_of_lem t))
      ∙ sym (by_parts (sym p ∙ z) (eq-eqb (length (fraction_digits t)) 3 e))
    where
      on : (c : Bool) → on_literal (if c then (λ _. None) otherwise λ _. Some (thousandths_of_lem t))
          ≡ verdict_by false false (ltb name_most (length t)) false true (starts_with_zero_lem t) (ltb literal_most (decimal 0 t)) false true c
          (decimal 0 t) (thousandths_of_lem t)
      on true = refl
      on false = refl

-- ---- a turn goes by the verdict

-- the turn reads on, with the token
abbrev Passes : (n k i : ℕ) → List ℕ → Type 0
Passes n k i t =
    (next : ℕ → ℕ → Outcome (List Token))
    → turn next n i (token k t) ≡ (next (n + 1) (i + length t) >>= λ ts. accepted ((record { kind = k; start = i; text = t }) ∷ ts))

abbrev Judged : (n k i : ℕ) → List ℕ → Result Entry Reason → Type 0
Judged n k i t (Err m) = (next : ℕ → ℕ → Outcome (List Token)) → turn next n i (token k t) ≡ refused (number_of m) i
Judged n k i t (Ok Name) = (n ≢ tokens_most) × (is_name_lem k ≡ true) × Passes n k i t
Judged n k i t (Ok (Plain v)) = (n ≢ tokens_most) × (is_name_lem k ≡ false) × (v ≡ number_beside k t) × Passes n k i t

module _ (n k i : ℕ) (t : List ℕ) where
  -- a turn by the answers of the tests
  turn_by : {many long zero other large : Bool} → eqb n tokens_most ≡ many → exceeds_length k t ≡ long → zero_first k t ≡ zero
      → not_three k t ≡ other → too_large k t ≡ large → (next : ℕ → ℕ → Outcome (List Token)) → turn next n i (token k t)
      ≡ (if many then (λ _. refused too_many_tokens i) otherwise λ _.
      if long then (λ _. refused name_too_long i) otherwise λ _.
      if zero then (λ _. refused leading_zero i) otherwise λ _.
      if other then (λ _. refused not_three_digits i) otherwise λ _.
      if large then (λ _. refused literal_too_large i) otherwise λ _.
      next (n + 1) (i + length t) >>= λ ts. accepted ((record { kind = k; start = i; text = t }) ∷ ts))
  unfolding turn
  turn_by a b c d e next = λ j.
      if a j then (λ _. refused too_many_tokens i) otherwise λ _.
      if b j then (λ _. refused name_too_long i) otherwise λ _.
      if c j then (λ _. refused leading_zero i) otherwise λ _.
      if d j then (λ _. refused not_three_digits i) otherwise λ _.
      if e j then (λ _. refused literal_too_large i) otherwise λ _.
      next (n + 1) (i + length t) >>= λ ts. accepted ((record { kind = k; start = i; text = t }) ∷ ts)

  judged-by : (many long zero other large name : Bool) → eqb n tokens_most ≡ many → exceeds_length k t ≡ long → zero_first k t ≡ zero
      → not_three k t ≡ other
      → too_large k t ≡ large
      → is_name_lem k ≡ name → Judged n k i t
      (if many then (λ _. Err reason.TooManyTokens) otherwise λ _.
      if long then (λ _. Err reason.NameTooLong) otherwise λ _.
      if zero then (λ _. Err reason.LeadingZero) otherwise λ _.
      if other then (λ _. Err reason.NotThreeDigits) otherwise λ _.
      if large then (λ _. Err reason.LiteralTooLarge) otherwise λ _.
      if name then (λ _. Ok Name) otherwise λ _. Ok (Plain (number_beside k t)))
  judged-by true long zero other large name a b c d e f = turn_by a b c d e
  judged-by false true zero other large name a b c d e f = turn_by a b c d e
  judged-by false false true other large name a b c d e f = turn_by a b c d e
  judged-by false false false true large name a b c d e f = turn_by a b c d e
  judged-by false false false false true name a b c d e f = turn_by a b c d e
  judged-by false false false false false true a b c d e f = (eqb-false n tokens_most a, f, turn_by a b c d e)
  judged-by false false false false false false a b c d e f = (eqb-false n tokens_most a, f, refl, turn_by a b c d e)

  judged : Judged n k i t (verdict_of n k t)
  unfolding verdict_of
  judged =
      judged-by (eqb n tokens_most) (exceeds_length k t) (zero_first k t) (not_three k t) (too_large k t) (is_name_lem k) refl refl refl refl refl refl

  pub judged-as : {v w : Result Entry Reason} → v ≡ verdict_of n k t → v ≡ w → Judged n k i t w
  judged-as {w = w} e q = subst (Judged n k i t) (sym e ∙ q) judged

-- ---- what becomes of a token

part_end : (s : List ℕ) (i e : ℕ) → i ≤ e → e ≤ length s → i + length (take (e - i) (drop i s)) ≡ e
part_end s i e h l = omega (arith, length-take-le (e - i) (drop i s) (omega (arith, length-drop i s)))

-- what tells a result of no value from the refusal
not_refused : {q : Refusal} → ◌≡◌ {A = Result (Unit {0}) Refusal} (Ok tt) (Err q) → ⊥
not_refused z = apart (cc)

not_done : {q : Refusal} → ◌≡◌ {A = Result (Unit {0}) Refusal} (Err q) (Ok tt) → ⊥
not_done z = apart (cc)

same_refusal : {q r : Refusal} → ◌≡◌ {A = Result (Unit {0}) Refusal} (Err q) (Err r) → q ≡ r
same_refusal z = cc

module _ {s tab tab' : List ℕ} {n k i e : ℕ} where
  pub added-refused : {v : Result Entry Reason} {m : Reason} → v ≡ verdict_of n k (take (e - i) (drop i s)) → v ≡ Err m
      → Added s tab n k i e (Err (record { reason = m; position = i })) tab'
  added-refused {v} {m} p w = record {
    refusal = λ q z next.
        judged-as n k i (take (e - i) (drop i s)) p w next ∙ ap (λ (x : Refusal). refused (number_of x.reason) x.position) (same_refusal z);
    done = λ z. absurd (not_done z);
    passed = λ z. absurd (not_done z);
  }

  added-done : Passes n k i (take (e - i) (drop i s)) → i ≤ e → e ≤ length s → Extended s tab n k i e tab' → Added s tab n k i e (Ok tt) tab'
  added-done p h l x = record {
    refusal = λ q z. absurd (not_refused z);
    done = λ _. x;
    passed = λ _ next.
        p next
        ∙ ap (λ (j : ℕ). next (n + 1) j >>= λ ts. accepted ((record { kind = k; start = i; text = take (e - i) (drop i s) }) ∷ ts)) (part_end s i e h l);
  }

  pub added-name : {v : Result Entry Reason} → v ≡ verdict_of n k (take (e - i) (drop i s)) → v ≡ Ok Name → i ≤ e → e ≤ length s
      → Extended s tab n k i e tab' → Added s tab n k i e (Ok tt) tab'
  added-name p q h l x = added-done (judged-as n k i (take (e - i) (drop i s)) p q).2 h l x

  pub added-plain : {v : Result Entry Reason} {m : ℕ} → v ≡ verdict_of n k (take (e - i) (drop i s)) → v ≡ Ok (Plain m) → i ≤ e → e ≤ length s
      → Extended s tab n k i e tab' → Added s tab n k i e (Ok tt) tab'
  added-plain p q h l x = added-done (judged-as n k i (take (e - i) (drop i s)) p q).3 h l x
