-- `base::word::unsigned` meets its contract: a number from 0 up stands for itself, and -(n + 1) for 2 ^ 32 - 1 - n.
use Rattle.std.proofs.Common.{◌≡◌, ℕ, suc, ◌-◌, ◌^◌, ◌<◌, Bool, true, false, cond, T, ℤ, pos, negsuc, ◌-ℤ◌, nat_abs, sym, refl, ap, ◌∙◌, subst, not-suc-le-zero, arith, w32, Fits, SFits, ltb-true, le-ltb}
use lib.Signed.{lt_z, non_neg}
use mir.ValLaws.{to_z-of_z, to_z_pos, to_z-neg}
use Rattle.base.specs.Word.{signed}
use Rattle.base.proofs.Held.{held, fits-as, held-as}
use Rattle.base.proofs.word.unsigned.Goals as goal

-- y is the number n, and fits
record Number (y : ℤ) (n : ℕ) : Type 0 where
  is : y ≡ pos n
  small : n < 2 ^ 31

module _ {y : ℤ} {n : ℕ} (N : Number y n) where
  number_fits : SFits w32 y
  number_fits = fits-as w32 N.is (record { sfits = N.small })

  number-held : held w32 y ≡ pos n
  number-held = held-as w32 N.is (record { sfits = N.small })

  number-cast : T (non_neg (held w32 y)) × Fits w32 (nat_abs (held w32 y))
  number-cast = subst (λ (v : ℤ). T (non_neg v) × Fits w32 (nat_abs v)) (sym number-held) (tt, record { fits = omega (arith, N.small) })

  number-below : nat_abs (held w32 y) < 2 ^ 31
  number-below = subst (λ (v : ℤ). nat_abs v < 2 ^ 31) (sym number-held) N.small

less_one : (n : ℕ) → negsuc 0 -ℤ negsuc n ≡ pos n
less_one n = ap (λ (b : Bool). cond b (negsuc (1 - suc (suc n))) (pos (suc n - 1))) (le-ltb (suc n) 1 (omega arith)) ∙ ap pos (omega arith)

complement : (n : ℕ) → 4294967295 - n ≡ 2 ^ 32 - suc n
complement n = omega arith

-- below 0: z is -(n + 1), and -1 - z is n
module _ (z : ℤ) (f : SFits w32 z) (t : lt_z (held w32 z) (pos 0) ≡ true) where
  negative : (n : ℕ) × (z ≡ negsuc n)
  negative = by_sign z (ap (λ (v : ℤ). lt_z v (pos 0)) (sym (to_z-of_z w32 z f)) ∙ t)
    where
      by_sign : (w : ℤ) → lt_z w (pos 0) ≡ true → (n : ℕ) × (w ≡ negsuc n)
      by_sign (pos n) e = absurd (not-suc-le-zero (ltb-true n 0 e))
      by_sign (negsuc n) e = (n, refl)

  flipped : Number (negsuc 0 -ℤ held w32 z) negative.0
  flipped = record { is = ap (λ (v : ℤ). negsuc 0 -ℤ v) (to_z-of_z w32 z f ∙ negative.1) ∙ less_one negative.0; small = (subst (SFits w32) negative.1 f).sfits }

  flipped_signed : signed (4294967295 - nat_abs (held w32 (negsuc 0 -ℤ held w32 z))) ≡ z
  flipped_signed =
      ap (λ (v : ℤ). signed (4294967295 - nat_abs v)) (number-held flipped)
      ∙ ap signed (complement negative.0)
      ∙ to_z-neg w32 negative.0 flipped.small
      ∙ sym negative.1

-- from 0 up
module _ (z : ℤ) (f : SFits w32 z) (t : lt_z (held w32 z) (pos 0) ≡ false) where
  positive : (n : ℕ) × (z ≡ pos n)
  positive = by_sign z (ap (λ (v : ℤ). lt_z v (pos 0)) (sym (to_z-of_z w32 z f)) ∙ t)
    where
      by_sign : (w : ℤ) → lt_z w (pos 0) ≡ false → (n : ℕ) × (w ≡ pos n)
      by_sign (pos n) e = (n, refl)
      by_sign (negsuc n) e = let o : ◌≡◌ {A = ℕ} 0 1 = cc in absurd (omega arith)

  itself : Number z positive.0
  itself = record { is = positive.1; small = (subst (SFits w32) positive.1 f).sfits }

  itself-signed : signed (nat_abs (held w32 z)) ≡ z
  itself-signed =
      ap (λ (v : ℤ). signed (nat_abs v)) (number-held itself) ∙ to_z_pos w32 positive.0 itself.small ∙ sym positive.1

pub overflow_sub-y : goal.overflow_sub-y
overflow_sub-y c = number_fits (flipped c.args.x c.ranges.x c.if-x-lt0.true)

pub overflow_cast-y : goal.overflow_cast-y
overflow_cast-y c = number-cast (flipped c.args.x c.ranges.x c.if-x-lt0.true)

pub overflow_sub-result : goal.overflow_sub-result
overflow_sub-result c = omega (arith, number-below (flipped c.args.x c.ranges.x c.if-x-lt0.true))

pub returns-then-x-lt0 : goal.returns-then-x-lt0
returns-then-x-lt0 c = flipped_signed c.args.x c.ranges.x c.if-x-lt0.true

pub overflow_cast-result : goal.overflow_cast-result
overflow_cast-result c = number-cast (itself c.args.x c.ranges.x c.if-x-lt0.false)

pub returns : goal.returns
returns c = itself-signed c.args.x c.ranges.x c.if-x-lt0.false
