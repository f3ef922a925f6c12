-- `base::word::scale` meets its contract: a signed word is at most 2 ^ 31 from zero, so the exact product of two is at most 2 ^ 62 from
-- zero, and fits 64 bits; the quotient is no further.
use Rattle.std.proofs.Common.{◌≡◌, ℕ, zero, suc, ◌*◌, ◌^◌, ◌<◌, ◌≤◌, ℤ, pos, negsuc, ◌*ℤ◌, neg_ℤ, nat_abs, refl, ap, ◌∙◌, ap₂, mul-le-mul, arith, w32, w64, SFits}
use lib.Signed.{mag, quot_z, nat_abs-le}
use Rattle.base.specs.Word.{low, truncated, per_unit}
use Rattle.base.proofs.Held.{held, fits-as, held-as, quotient_fits}
use Rattle.base.proofs.word.scale.Goals as goal

mag-negated : (n : ℕ) → mag (neg_ℤ (pos n)) ≤ n
mag-negated zero = omega arith
mag-negated (suc n) = omega arith

mag-product : (a b : ℤ) → mag (a *ℤ b) ≤ nat_abs a * nat_abs b
mag-product (pos a) (pos b) = omega arith
mag-product (pos a) (negsuc b) = mag-negated (a * suc b)
mag-product (negsuc a) (pos b) = mag-negated (suc a * b)
mag-product (negsuc a) (negsuc b) = omega arith

-- a signed word that is made 64 bits wide
module _ (a : ℤ) (h : mag a < 2 ^ 31) where
  narrow : held w32 a ≡ a
  narrow = held-as w32 refl (record { sfits = h })

  wide_fits : SFits w64 a
  wide_fits = record { sfits = omega (arith, h) }

  cast_fits : SFits w64 (held w32 a)
  cast_fits = fits-as w64 narrow wide_fits

  wide : held w64 (held w32 a) ≡ a
  wide = held-as w64 narrow wide_fits

module _ (a b : ℤ) (ha : mag a < 2 ^ 31) (hb : mag b < 2 ^ 31) where
  exact-fits : SFits w64 (a *ℤ b)
  exact-fits = record { sfits = omega (arith, mag-product a b, mul-le-mul (nat_abs-le a ha) (nat_abs-le b hb)) }

  abbrev product : ℤ
  product = held w64 (held w32 a) *ℤ held w64 (held w32 b)

  product_is : product ≡ a *ℤ b
  product_is = ap₂ ◌*ℤ◌ (wide a ha) (wide b hb)

  product-fits : SFits w64 product
  product-fits = fits-as w64 product_is exact-fits

  product-held : held w64 product ≡ a *ℤ b
  product-held = held-as w64 product_is exact-fits

  abbrev quotient : ℤ
  quotient = quot_z (held w64 product) (pos per_unit)

  divided : SFits w64 quotient
  divided = quotient_fits w64 per_unit (fits-as w64 product-held exact-fits)

  quotient-held : held w64 quotient ≡ truncated (a *ℤ b) per_unit
  quotient-held = held-as w64 refl divided ∙ ap (λ (z : ℤ). quot_z z (pos per_unit)) product-held

pub overflow_cast-product : goal.overflow_cast-product
overflow_cast-product c = cast_fits c.signed.result c.signed.type_inv

pub overflow_cast-product-2 : goal.overflow_cast-product-2
overflow_cast-product-2 c = cast_fits c.signed-2.result c.signed-2.type_inv

pub overflow_mul-product : goal.overflow_mul-product
overflow_mul-product c = product-fits c.signed.result c.signed-2.result c.signed.type_inv c.signed-2.type_inv

pub nonzero_div-product : goal.nonzero_div-product
nonzero_div-product c = (omega arith, divided c.signed.result c.signed-2.result c.signed.type_inv c.signed-2.type_inv)

pub returns : goal.returns
returns c =
    c.low.ensures
    ∙ ap (low 32)
    (quotient-held c.signed.result c.signed-2.result
    c.signed.type_inv c.signed-2.type_inv)
    ∙ ap₂ (λ (a b : ℤ). low 32 (truncated (a *ℤ b) per_unit)) c.signed.ensures c.signed-2.ensures
