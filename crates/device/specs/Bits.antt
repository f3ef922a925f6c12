-- Document 02, (viii), of the registers as a lesson sees them: bit 7 is what bits 0 and 1 and the mask make it, whatever was done before;
-- a sample changes registers 0 and 2 only, and none past the tape's end; and there are always sixteen.
use Rattle.std.specs.Prelude.{ℕ, zero, suc, ◌+◌, Bool, true, false, ◌&&◌, ◌||◌, List, [], ◌∷◌, ◌≡◌, refl, ◌≢◌, length, eqb}
use Rattle.std.proofs.Common.{sym, ap, ap₂, ◌∙◌, subst, length-set}
use Rattle.base.specs.Choice.{if◌then◌otherwise◌}
use Rattle.device.specs.Device.{Device, reset, bit, bit_value, alarm, registers, sample_of, sample, got, with_flags, after_get, after_put}

-- bits 0, 1 and 7 of a byte that these three make
of-0 : (a l r : Bool) → bit 0 (bit_value 0 a + bit_value 1 l + bit_value 7 r) ≡ a
of-0 false false false = refl
of-0 false false true = refl
of-0 false true false = refl
of-0 false true true = refl
of-0 true false false = refl
of-0 true false true = refl
of-0 true true false = refl
of-0 true true true = refl

of-1 : (a l r : Bool) → bit 1 (bit_value 0 a + bit_value 1 l + bit_value 7 r) ≡ l
of-1 false false false = refl
of-1 false false true = refl
of-1 false true false = refl
of-1 false true true = refl
of-1 true false false = refl
of-1 true false true = refl
of-1 true true false = refl
of-1 true true true = refl

of-7 : (a l r : Bool) → bit 7 (bit_value 0 a + bit_value 1 l + bit_value 7 r) ≡ r
of-7 false false false = refl
of-7 false false true = refl
of-7 false true false = refl
of-7 false true true = refl
of-7 true false false = refl
of-7 true false true = refl
of-7 true true false = refl
of-7 true true true = refl

pub bit-0 : (d : Device) → bit 0 (got 0 d) ≡ d.arrived
bit-0 d = of-0 d.arrived d.lost (alarm d)

pub bit-1 : (d : Device) → bit 1 (got 0 d) ≡ d.lost
bit-1 d = of-1 d.arrived d.lost (alarm d)

-- "Bit 7 of register 0 is set exactly when bit 0 or 1 is set and its mask bit also."
pub bit-7 : (d : Device) → bit 7 (got 0 d) ≡ ((bit 0 (got 0 d) && bit 0 (got 1 d)) || (bit 1 (got 0 d) && bit 1 (got 1 d)))
bit-7 d =
    of-7 d.arrived d.lost (alarm d)
    ∙ sym (ap₂ (λ (a l : Bool). (a && bit 0 d.mask) || (l && bit 1 d.mask)) (bit-0 d) (bit-1 d))

-- a sample changes registers 0 and 2 only
pub sample-leaves : (d : Device) (n : ℕ) → n ≢ 0 → n ≢ 2 → got n (sample d) ≡ got n d
sample-leaves d n n0 n2 = go d.tape n n0 n2
  where
    go : (t : List ℕ) (n : ℕ) → n ≢ 0 → n ≢ 2 → got n (sample_of t d) ≡ got n d
    go [] n n0 n2 = refl
    go (b ∷ t) zero n0 n2 = absurd (n0 refl)
    go (b ∷ t) (suc zero) n0 n2 = refl
    go (b ∷ t) (suc (suc zero)) n0 n2 = absurd (n2 refl)
    go (b ∷ t) (suc (suc (suc n))) n0 n2 = refl

-- past the tape's end nothing happens
pub sample-none : (d : Device) → d.tape ≡ [] → sample d ≡ d
sample-none d e = subst (λ (t : List ℕ). sample_of t d ≡ d) (sym e) refl

-- THE REGISTER STRIP HAS 16 BYTES, WHATEVER IS DONE

pub sixteen-reset : (t : List ℕ) → length (registers (reset t)) ≡ 16
sixteen-reset t = refl

pub sixteen-sample : (d : Device) → length (registers (sample d)) ≡ length (registers d)
sixteen-sample d = go d.tape
  where
    go : (t : List ℕ) → length (registers (sample_of t d)) ≡ length (registers d)
    go [] = refl
    go (b ∷ t) = refl

pub sixteen-get : (n : ℕ) (d : Device) → length (registers (after_get n d)) ≡ length (registers d)
sixteen-get n d = go (eqb n 2)
  where
    go : (b : Bool) → length (registers (if b then (λ _. with_flags false d.lost d) otherwise λ _. d)) ≡ length (registers d)
    go false = refl
    go true = refl

pub sixteen-put : (n v : ℕ) (d : Device) → length (registers (after_put n v d)) ≡ length (registers d)
sixteen-put zero v d = refl
sixteen-put (suc zero) v d = refl
sixteen-put (suc (suc zero)) v d = refl
sixteen-put (suc (suc (suc n))) v d = ap (λ (k : ℕ). suc (suc (suc k))) (length-set d.others n v)
