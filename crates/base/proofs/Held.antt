-- A local of a signed type gives back the number that it holds, since that number fits; and a quotient by a number fits where its
-- dividend does, since it is no further from zero.
use Rattle.std.proofs.Common.{◌≡◌, ℕ, zero, suc, ◌/◌, ◌≤◌, ℤ, pos, negsuc, neg_ℤ, sym, ◌∙◌, subst, lt_of_le_of_lt, div-le_self, arith, SFits, to_z, of_z}
use lib.Signed.{mag, quot_z}
use mir.Syntax.{Width}
use mir.ValLaws.{to_z-of_z}

-- a local that holds z reads as this
abbrev pub held : Width → ℤ → ℤ
held w z = to_z w (of_z w z)

-- what is computed, z, is a number v that fits
module _ (w : Width) {z v : ℤ} (e : z ≡ v) (f : SFits w v) where
  pub fits-as : SFits w z
  fits-as = subst (SFits w) (sym e) f

  pub held-as : held w z ≡ v
  held-as = to_z-of_z w z fits-as ∙ e

mag-quotient : (z : ℤ) (d : ℕ) → mag (quot_z z (pos d)) ≤ mag z
mag-quotient (pos n) d = div-le_self n d
mag-quotient (negsuc n) d = negated (suc n / d) (div-le_self (suc n) d)
  where
    negated : (q : ℕ) → q ≤ suc n → mag (neg_ℤ (pos q)) ≤ n
    negated zero h = omega arith
    negated (suc q) h = omega (arith, h)

pub quotient_fits : (w : Width) {z : ℤ} (d : ℕ) → SFits w z → SFits w (quot_z z (pos d))
quotient_fits w {z} d f = record { sfits = lt_of_le_of_lt (mag-quotient z d) f.sfits }
