-- Rows by computation: what the registers show after samples, gets and puts.
use Rattle.std.specs.Prelude.{ℕ, List, [], ◌∷◌, ◌≡◌, refl}
use Rattle.device.specs.Device.{Device, reset, registers, sample, at_step, got, after_get, after_put}

-- the first three registers
abbrev shown : Device → List ℕ
shown d = got 0 d ∷ got 1 d ∷ got 2 d ∷ []

abbrev fresh : Device
fresh = reset (7 ∷ 200 ∷ [])

arrives-once : shown (sample fresh) ≡ (1 ∷ 0 ∷ 7 ∷ [])
arrives-once = refl

-- a sample that was not got is lost, and the next one overwrites it
loses-one : shown (sample (sample fresh)) ≡ (3 ∷ 0 ∷ 200 ∷ [])
loses-one = refl

past_the_end : sample (sample (sample fresh)) ≡ sample (sample fresh)
past_the_end = refl

-- bit 7 by the mask of each flag; the other bits of the mask mean nothing
masked-arrived : shown (after_put 1 1 (sample fresh)) ≡ (129 ∷ 1 ∷ 7 ∷ [])
masked-arrived = refl

other-mask : shown (after_put 1 254 (sample fresh)) ≡ (1 ∷ 254 ∷ 7 ∷ [])
other-mask = refl

masked-lost : shown (sample (sample (after_put 1 2 fresh))) ≡ (131 ∷ 2 ∷ 200 ∷ [])
masked-lost = refl

-- getting register 2 clears bit 0, not bit 1, and leaves what it holds; getting register 0 changes nothing
got-reading : shown (after_get 2 (sample (sample fresh))) ≡ (2 ∷ 0 ∷ 200 ∷ [])
got-reading = refl

got-status : after_get 0 (sample fresh) ≡ sample fresh
got-status = refl

-- a sample after that sets bit 0 alone
in-time : shown (sample (after_get 2 (sample fresh))) ≡ (1 ∷ 0 ∷ 200 ∷ [])
in-time = refl

-- putting to register 0 clears the bits that are 1 in the value, and bit 7 with them
put-lost : shown (after_put 0 2 (after_put 1 3 (sample (sample fresh)))) ≡ (129 ∷ 3 ∷ 200 ∷ [])
put-lost = refl

put-arrived : shown (after_put 0 253 (sample (sample fresh))) ≡ (2 ∷ 0 ∷ 200 ∷ [])
put-arrived = refl

put_both : shown (after_put 0 255 (after_put 1 3 (sample (sample fresh)))) ≡ (0 ∷ 3 ∷ 200 ∷ [])
put_both = refl

put-reading : after_put 2 99 (sample fresh) ≡ sample fresh
put-reading = refl

-- the other registers hold what was after_put
put_last : registers (after_put 15 255 (after_put 3 1 fresh)) ≡ (0 ∷ 0 ∷ 0 ∷ 1 ∷ 0 ∷ 0 ∷ 0 ∷ 0 ∷ 0 ∷ 0 ∷ 0 ∷ 0 ∷ 0 ∷ 0 ∷ 0 ∷ 255 ∷ [])
put_last = refl

-- at step 100 and 200, not beside them
step-99 : at_step 99 fresh ≡ fresh
step-99 = refl

step-100 : at_step 100 fresh ≡ sample fresh
step-100 = refl

step-101 : at_step 101 fresh ≡ fresh
step-101 = refl

step-200 : at_step 200 fresh ≡ sample fresh
step-200 = refl
