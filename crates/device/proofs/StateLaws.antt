-- Flags: the byte of two flags gives both back, and what is written into a strip is read again.
use Prim.Native.Nat.{ℕ, ◌+◌, ◌<◌}
use native.Mathlib.Omega.{arith}
use mathlib.Core.Bool.{Bool, true, false}
use mathlib.Core.List.{List, [], ◌∷◌}
use mathlib.Core.Path.{◌≡◌, refl, sym, ap₂, subst}
use lib.ListN.{length, set}
use Rattle.device.specs.Device as Device
use Rattle.device.specs.Device.{Device}
use Rattle.device.specs.promises.Holding.{held_in, device_of, Alters}

-- the byte of two flags
abbrev pub flags : (arrived lost : Bool) → ℕ
flags a l = Device.bit_value 0 a + Device.bit_value 1 l

flag-0 : (a l : Bool) → Device.bit 0 (flags a l) ≡ a
flag-0 false false = refl
flag-0 false true = refl
flag-0 true false = refl
flag-0 true true = refl

flag-1 : (a l : Bool) → Device.bit 1 (flags a l) ≡ l
flag-1 false false = refl
flag-1 false true = refl
flag-1 true false = refl
flag-1 true true = refl

-- other flags
pub flagged : (s : List ℕ) (a l : Bool) → 0 < length s → (t : List ℕ) (n : ℕ)
    → device_of t (held_in (set s 0 (flags a l)) n) ≡ Device.with_flags a l (device_of t (held_in s n))
flagged [] a l h t n = absurd (omega (arith, h))
flagged (f ∷ s) a l h t n =
    ap₂ (λ (a l : Bool). Device.with_flags a l (device_of t (held_in (f ∷ s) n))) (flag-0 a l) (flag-1 a l)

-- register 0 by its number
pub put-status : {s s' : List ℕ} (n b : ℕ) → n ≡ 0 → Alters (Device.after_put 0 b) s s' → Alters (Device.after_put n b) s s'
put-status {s} {s'} n b z = subst (λ (m : ℕ). Alters (Device.after_put m b) s s') (sym z)
