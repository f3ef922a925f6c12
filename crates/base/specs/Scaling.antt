-- Rows by computation: products of thousandths, with the signs and the sizes at which another rounding or another width would differ.
use Rattle.std.specs.Prelude.{◌≡◌, ℕ, negsuc, refl}
use Rattle.base.specs.Word.{sub, signed, scale}

-- the words of -2147483648 and 2147483647
abbrev least : ℕ
least = 2147483648

abbrev greatest : ℕ
greatest = 2147483647

-- "(0.000-1.500)*0.001 prints -1" (02, ix)
printed : signed (scale (sub 0 1500) 1) ≡ negsuc 0
printed = refl

printed-word : scale (sub 0 1500) 1 ≡ 4294967295
printed-word = refl

-- 1.500 * 2.000 is 3.000
whole : scale 1500 2000 ≡ 3000
whole = refl

one-thousandth : scale 1 1000 ≡ 1
one-thousandth = refl

-- what is less than a thousandth is none, on either side of zero
below_one : scale 999 1 ≡ 0
below_one = refl

above_minus_one : scale (sub 0 999) 1 ≡ 0
above_minus_one = refl

minus_one : scale (sub 0 1000) 1 ≡ 4294967295
minus_one = refl

both_negative : scale (sub 0 1500) (sub 0 1) ≡ 1
both_negative = refl

of_zero : scale 0 least ≡ 0
of_zero = refl

-- the exact products take up to 63 bits, and the quotients more than 32
least-squared : scale least least ≡ 3539053051
least-squared = refl

least-by-greatest : scale least greatest ≡ 758061728
least-by-greatest = refl

greatest-squared : scale greatest greatest ≡ 3534758084
greatest-squared = refl

greatest-squared-reads : signed (scale greatest greatest) ≡ negsuc 760209211
greatest-squared-reads = refl
