-- Registers are bytes, whatever is done with bytes: the flags of register 0 add up to at most 131, and the others hold what was put or came
-- from the tape.
use Rattle.std.specs.Prelude.{ℕ, zero, suc, ◌+◌, ◌%◌, ◌<◌, Bool, true, false, List, [], ◌∷◌, get_or, eqb}
use Rattle.std.proofs.Common.{lit<}
use Rattle.base.specs.All.{All, all_nil, all_cons}
use Rattle.base.specs.Choice.{if◌then◌otherwise◌}
use Rattle.base.specs.laws.Lists.{all_set, all_replicate}
use Rattle.device.specs.Device.{IsByte, Device, reset, bit_value, alarm, sample_of, sample, at_step, period, got, with_flags, after_get, after_put}

pub record HoldsBytes (d : Device) : Type 0 where
  pub mask : IsByte d.mask
  pub reading : IsByte d.reading
  pub others : All IsByte d.others
  pub tape : All IsByte d.tape

three-bits : (a l r : Bool) → IsByte (bit_value 0 a + bit_value 1 l + bit_value 7 r)
three-bits false false false = lit< tt
three-bits false false true = lit< tt
three-bits false true false = lit< tt
three-bits false true true = lit< tt
three-bits true false false = lit< tt
three-bits true false true = lit< tt
three-bits true true false = lit< tt
three-bits true true true = lit< tt

-- an element of a list of bytes, or 0
element : {l : List ℕ} (n : ℕ) → All IsByte l → IsByte (get_or l n 0)
element n all_nil = lit< tt
element zero (all_cons p h) = p
element (suc n) (all_cons p h) = element n h

pub got-byte : {d : Device} (n : ℕ) → HoldsBytes d → IsByte (got n d)
got-byte {d} n B =
    element n (all_cons (three-bits d.arrived d.lost (alarm d)) (all_cons B.mask (all_cons B.reading B.others)))

pub reset-bytes : {t : List ℕ} → All IsByte t → HoldsBytes (reset t)
reset-bytes h = record { mask = lit< tt; reading = lit< tt; others = all_replicate 13 0 (lit< tt); tape = h }

pub sample-bytes : {d : Device} → HoldsBytes d → HoldsBytes (sample d)
sample-bytes {d} B = go d.tape B.tape
  where
    go : (t : List ℕ) → All IsByte t → HoldsBytes (sample_of t d)
    go [] h = B
    go (b ∷ t) (all_cons p h) = record { mask = B.mask; reading = p; others = B.others; tape = h }

pub step-bytes : {d : Device} (n : ℕ) → HoldsBytes d → HoldsBytes (at_step n d)
step-bytes {d} n B = go (eqb (n % period) 0)
  where
    go : (b : Bool) → HoldsBytes (if b then (λ _. sample d) otherwise λ _. d)
    go false = B
    go true = sample-bytes B

pub get-bytes : {d : Device} (n : ℕ) → HoldsBytes d → HoldsBytes (after_get n d)
get-bytes {d} n B = go (eqb n 2)
  where
    go : (b : Bool) → HoldsBytes (if b then (λ _. with_flags false d.lost d) otherwise λ _. d)
    go false = B
    go true = record { mask = B.mask; reading = B.reading; others = B.others; tape = B.tape }

pub put-bytes : {d : Device} (n : ℕ) {v : ℕ} → IsByte v → HoldsBytes d → HoldsBytes (after_put n v d)
put-bytes zero p B = record { mask = B.mask; reading = B.reading; others = B.others; tape = B.tape }
put-bytes (suc zero) p B = record { mask = p; reading = B.reading; others = B.others; tape = B.tape }
put-bytes (suc (suc zero)) p B = B
put-bytes (suc (suc (suc n))) p B = record { mask = B.mask; reading = B.reading; others = all_set n B.others p; tape = B.tape }
