-- Two folds over bytes, read by an index: a literal's value, whose sum only grows, and for a literal of fixed goes on behind the point, and a
-- name's bucket.
use Prim.Native.Nat.{ℕ, ◌+◌, ◌*◌, ◌-◌, ◌%◌, ◌≤◌, ◌<◌}
use native.Mathlib.Omega.{arith}
use mathlib.Core.List.{List}
use mathlib.Core.Logic.{◌≢◌}
use mathlib.Core.Bool.{Bool, true, false}
use mathlib.Core.Path.{◌≡◌, refl, sym, ap, ◌∙◌}
use lib.ListN.{length, get_or, take, drop, length-drop}
use lib.Seq.{take_all}
use lib.Dec.{ltb}
use borrow.Author.Tests.{ltb-true, ltb-false, lt-ltb, le-ltb}
use Rattle.base.specs.Choice.{if◌then◌otherwise◌}
use Rattle.base.specs.Codes.{literal_most}
use Rattle.base.specs.laws.Tests.{apart}
use Rattle.base.specs.promises.Table.{rows}
use Rattle.lexer.specs.Bytes.{b_zero, is_digit_lem}
use Rattle.lexer.specs.Tokens.{decimal, whole_digits, fraction_digits, thousandths_of_lem}
use Rattle.lexer.proofs.laws.ItemLaws.{run-front, run_short}
use Rattle.lexer.proofs.laws.LiteralLaws.{decimal-grows}
use Rattle.lexer.specs.promises.Chains.{bucket_from}
use Rattle.lexer.specs.promises.Verdicts.{literal_of}
use Rattle.std.specs.Prelude.{Option as Found, Some, None}
use Rattle.lexer.proofs.Runs.{rest, rest-none}

-- ---- the value of a literal

-- the digits before i make `high`, after those that make `before`
pub record Summed (before : ℕ) (t : List ℕ) (high i : ℕ) : Type 0 where
  pub within : i ≤ length t
  pub small : high ≤ literal_most
  pub left : decimal before t ≡ decimal high (drop i t)

module _ {before : ℕ} {t : List ℕ} {high i d : ℕ} (h : i < length t) (e : d ≡ get_or t i 0 - b_zero) (v : Summed before t high i) where
  step : decimal before t ≡ decimal (high * 10 + d) (drop (i + 1) t)
  unfolding decimal
  step = v.left ∙ ap (decimal high) (rest t i h) ∙ ap (λ (n : ℕ). decimal (high * 10 + n) (drop (i + 1) t)) (sym e)

  pub summed-more : high * 10 + d ≤ literal_most → Summed before t (high * 10 + d) (i + 1)
  summed-more l = record { within = omega arith; small = l; left = step }

  pub summed-past : literal_most < high * 10 + d → None ≡ literal_of (decimal before t)
  summed-past l =
      let g : literal_most < decimal before t = omega (arith, step, decimal-grows (high * 10 + d) (drop (i + 1) t)) in
      rw (lt-ltb literal_most (decimal before t) g)

pub summed-end : {before : ℕ} {t : List ℕ} {high i : ℕ} → length t ≤ i → Summed before t high i
    → Some high ≡ literal_of (decimal before t)
unfolding decimal
summed-end {before} {t} {high} {i} h v =
    let e : decimal before t ≡ high = v.left ∙ ap (decimal high) (rest-none t i h) in
    let l = v.small in
    rw (e, le-ltb literal_most high l)

-- ---- the thousandths of a literal of fixed

value-is : (n : ℕ) {v : ℕ} → Some v ≡ literal_of n → (v ≡ n) × (n ≤ literal_most)
value-is n q = by (ltb literal_most n) refl q
  where
    by : {v : ℕ} (b : Bool) → ltb literal_most n ≡ b → Some v ≡ (if b then (λ _. None) otherwise λ _. Some n) → (v ≡ n) × (n ≤ literal_most)
    by true p z = apart (cc)
    by false p z = (cc, ltb-false literal_most n p)

value-past : (n : ℕ) → None ≡ literal_of n → literal_most < n
value-past n q = by (ltb literal_most n) refl q
  where
    by : (b : Bool) → ltb literal_most n ≡ b → None ≡ (if b then (λ _. None) otherwise λ _. Some n) → literal_most < n
    by true p z = ltb-true literal_most n p
    by false p z = apart (cc)

-- the parts of a text before its point and behind it, where the point is at n
module _ (t : List ℕ) {n : ℕ} (e : n ≡ length (whole_digits t)) where
  pub whole_part : take (n - 0) (drop 0 t) ≡ whole_digits t
  whole_part = let z : n - 0 ≡ length (whole_digits t) = omega arith in ap (λ (m : ℕ). take m t) z ∙ run-front is_digit_lem t

  pub fraction-part : take (length t - (n + 1)) (drop (n + 1) t) ≡ fraction_digits t
  fraction-part =
      take_all (length t - (n + 1)) (drop (n + 1) t) (omega (arith, length-drop (n + 1) t)) ∙ ap (λ (m : ℕ). drop (m + 1) t) e

  pub whole-inside : n ≤ length t
  whole-inside = omega (arith, run_short is_digit_lem t)

  fraction-length : length (fraction_digits t) ≡ length t - (n + 1)
  fraction-length = length-drop (length (whole_digits t) + 1) t ∙ ap (λ (m : ℕ). length t - (m + 1)) (sym e)

  -- the point and the digits behind it
  pub three-behind : length t - n ≡ 4 → length (fraction_digits t) ≡ 3
  three-behind q = omega (arith, fraction-length)

  pub others-behind : length t - n ≢ 4 → length (fraction_digits t) ≢ 3
  others-behind q z = q (omega (arith, fraction-length))

-- w and f are the digits before its point and those behind it, and v is what is known of those before it
module _ (t : List ℕ) {w f : List ℕ} (is : w ≡ whole_digits t) (behind : f ≡ fraction_digits t) {v : Found ℕ} (e : v ≡ literal_of (decimal 0 w)) where
  parts : thousandths_of_lem t ≡ decimal (decimal 0 w) f
  unfolding thousandths_of_lem
  parts = λ j. decimal (decimal 0 (sym is j)) (sym behind j)

  pub whole-small : {whole : ℕ} → v ≡ Some whole → whole ≤ literal_most
  whole-small q = let k = value-is (decimal 0 w) (sym q ∙ e) in omega (arith, k.0, k.1)

  pub counted-more : {whole : ℕ} {r : Found ℕ} → v ≡ Some whole → r ≡ literal_of (decimal whole f) → r ≡ literal_of (thousandths_of_lem t)
  counted-more q p =
      let k = value-is (decimal 0 w) (sym q ∙ e) in
      p ∙ ap (λ (n : ℕ). literal_of (decimal n f)) k.0 ∙ ap literal_of (sym parts)

  pub counted-past : v ≡ None → None ≡ literal_of (thousandths_of_lem t)
  counted-past q =
      let g : literal_most < thousandths_of_lem t =
      omega (arith, parts, decimal-grows (decimal 0 w) f, value-past (decimal 0 w) (sym q ∙ e)) in
      rw (lt-ltb literal_most (thousandths_of_lem t) g)

-- ---- the bucket of a name

-- the bytes before i make h
pub record Hashed (t : List ℕ) (h i : ℕ) : Type 0 where
  pub within : i ≤ length t
  pub small : h < rows
  pub left : bucket_from 0 t ≡ bucket_from h (drop i t)

module _ {t : List ℕ} {h i : ℕ} where
  pub hashed-more : i < length t → Hashed t h i → Hashed t ((h * 31 + get_or t i 0) % rows) (i + 1)
  unfolding bucket_from
  hashed-more l v = record { within = omega arith; small = omega arith; left = v.left ∙ ap (bucket_from h) (rest t i l) }

  pub hashed-end : length t ≤ i → Hashed t h i → (h ≡ bucket_from 0 t) × (h < rows)
  unfolding bucket_from
  hashed-end l v = (sym (v.left ∙ ap (bucket_from h) (rest-none t i l)), v.small)
