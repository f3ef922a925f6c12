-- `base::word::low` meets its contract: the remainder by 2 ^ 32 lies within 2 ^ 32 of zero, so 2 ^ 32 more is a number, with the same low
-- 32 bits.
use Rattle.std.proofs.Common.{◌≡◌, ℕ, zero, suc, ◌+◌, ◌-◌, ◌%◌, ◌^◌, ◌<◌, Bool, cond, T, ℤ, pos, negsuc, ◌+ℤ◌, neg_ℤ, nat_abs, sym, refl, ap, ◌∙◌, subst, lt_of_le_of_lt, arith, w64, Fits, SFits, le-ltb}
use native.Mathlib.Nat.{mod-mod, add-mod_right}
use lib.Signed.{non_neg, quot_z, rem_z, mag_rem}
use Rattle.base.specs.Word.{modulus, low}
use Rattle.base.specs.laws.WordLaws.{low-neg}
use Rattle.base.proofs.Held.{held, fits-as, held-as, quotient_fits}
use Rattle.base.proofs.word.low.Goals as goal

-- the remainder of z by 2 ^ 32, with z's sign, and 2 ^ 32 more
abbrev above : ℤ → ℕ
above (pos n) = n % modulus + modulus
above (negsuc n) = modulus - suc n % modulus

above_low : (z : ℤ) → above z % modulus ≡ low 32 z
above_low (pos n) = add-mod_right (n % modulus) modulus ∙ mod-mod n modulus
above_low (negsuc n) = sym (low-neg 32 (pos (suc n)))

above-small : (z : ℤ) → above z < 2 ^ 63
above-small (pos n) = omega arith
above-small (negsuc n) = omega arith

above-is : (z : ℤ) → rem_z z (pos modulus) +ℤ pos modulus ≡ pos (above z)
above-is (pos n) = refl
above-is (negsuc n) = less (suc n % modulus) (omega arith)
  where
    less : (r : ℕ) → r < modulus → neg_ℤ (pos r) +ℤ pos modulus ≡ pos (modulus - r)
    less zero h = refl
    less (suc r) h =
        ap (λ (b : Bool). cond b (negsuc (suc r - suc modulus)) (pos (modulus - suc r))) (le-ltb modulus (suc r) (omega (arith, h)))

module _ (z : ℤ) (f : SFits w64 z) where
  itself : held w64 z ≡ z
  itself = held-as w64 refl f

  divides : SFits w64 (quot_z (held w64 z) (pos modulus))
  divides = quotient_fits w64 modulus (fits-as w64 itself f)

  rest : held w64 (rem_z (held w64 z) (pos modulus)) ≡ rem_z z (pos modulus)
  rest =
      held-as w64 (ap (λ (v : ℤ). rem_z v (pos modulus)) itself)
      (record { sfits = lt_of_le_of_lt (mag_rem z (pos modulus)) f.sfits })

  abbrev sum : ℤ
  sum = held w64 (rem_z (held w64 z) (pos modulus)) +ℤ pos modulus

  sum_is : sum ≡ pos (above z)
  sum_is = ap (λ (v : ℤ). v +ℤ pos modulus) rest ∙ above-is z

  small : SFits w64 (pos (above z))
  small = record { sfits = above-small z }

  sum-held : held w64 sum ≡ pos (above z)
  sum-held = held-as w64 sum_is small

  sum-cast : T (non_neg (held w64 sum)) × Fits w64 (nat_abs (held w64 sum))
  sum-cast =
      subst (λ (v : ℤ). T (non_neg v) × Fits w64 (nat_abs v)) (sym sum-held) (tt, record { fits = omega (arith, above-small z) })

  sum_low : nat_abs (held w64 sum) % modulus ≡ low 32 z
  sum_low = ap (λ (v : ℤ). nat_abs v % modulus) sum-held ∙ above_low z

pub nonzero_rem-above : goal.nonzero_rem-above
nonzero_rem-above c = (omega arith, divides c.args.z c.ranges.z)

pub overflow_add-above : goal.overflow_add-above
overflow_add-above c = fits-as w64 (sum_is c.args.z c.ranges.z) (small c.args.z c.ranges.z)

pub overflow_cast-above : goal.overflow_cast-above
overflow_cast-above c = sum-cast c.args.z c.ranges.z

pub returns : goal.returns
returns c = sum_low c.args.z c.ranges.z
