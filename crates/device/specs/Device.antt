-- Document 02, (viii): the device behind the cable. It knows nothing of a run but when a step is charged, and what is got and put.
use Rattle.std.specs.Prelude.{ℕ, zero, suc, ◌+◌, ◌/◌, ◌%◌, ◌^◌, ◌<◌, Bool, true, false, ◌&&◌, ◌||◌, not, List, [], ◌∷◌, get_or, set, replicate, drop, eqb}
use Rattle.base.specs.Choice.{if◌then◌otherwise◌}
use Rattle.base.specs.Codes.{byte_values}

-- what a register and a place of the tape hold
abbrev pub IsByte : ℕ → Type 0
IsByte v = v < byte_values

-- Flag bits 0 and 1 of register 0, which say that a sample arrived and that one was lost; register 1, the mask; register 2, the last
-- sample; registers 3 to 15; and the tape bytes that are still to come.
pub record Device : Type 0 where
  pub arrived : Bool
  pub lost : Bool
  pub mask : ℕ
  pub reading : ℕ
  pub others : List ℕ
  pub tape : List ℕ

-- "set to 0 at the start of the run"
abbrev pub reset : (tape : List ℕ) → Device
reset t = record { arrived = false; lost = false; mask = 0; reading = 0; others = replicate 13 0; tape = t }

-- whether bit k of a byte is set
abbrev pub bit : (k : ℕ) → ℕ → Bool
bit zero v = eqb (v % 2) 1
bit (suc k) v = bit k (v / 2)

-- what bit k adds to a byte
abbrev pub bit_value : (k : ℕ) → Bool → ℕ
bit_value k b = if b then (λ _. 2 ^ k) otherwise λ _. 0

-- "Bit 7 of register 0 is set exactly when bit 0 or 1 is set and its mask bit also."
abbrev pub alarm : Device → Bool
alarm d = (d.arrived && bit 0 d.mask) || (d.lost && bit 1 d.mask)

abbrev pub status : Device → ℕ
status d = bit_value 0 d.arrived + bit_value 1 d.lost + bit_value 7 (alarm d)

-- the sixteen registers
abbrev pub registers : Device → List ℕ
registers d = status d ∷ d.mask ∷ d.reading ∷ d.others

-- a tape byte goes to register 2 and bit 0 is set; "if bit 0 was set already, bit 1 (lost) is set too"
abbrev pub arrives : (byte : ℕ) (rest : List ℕ) → Device → Device
arrives b t d = record { arrived = true; lost = d.lost || d.arrived; mask = d.mask; reading = b; others = d.others; tape = t }

-- "the next tape byte, if any"; "Past the tape's end nothing happens."
abbrev pub sample_of : (tape : List ℕ) → Device → Device
sample_of [] d = d
sample_of (b ∷ t) d = arrives b t d

abbrev pub sample : Device → Device
sample d = sample_of d.tape d

-- "As step 100, 200 and so on is charged"
abbrev pub period : ℕ
period = 100

abbrev pub at_step : (step : ℕ) → Device → Device
at_step n d = if eqb (n % period) 0 then (λ _. sample d) otherwise λ _. d

-- what is got from a register
abbrev pub got : (register : ℕ) → Device → ℕ
got n d = get_or (registers d) n 0

abbrev pub with_flags : (arrived lost : Bool) → Device → Device
with_flags a l d = record { arrived = a; lost = l; mask = d.mask; reading = d.reading; others = d.others; tape = d.tape }

-- "Getting register 2 clears bit 0."
abbrev pub after_get : (register : ℕ) → Device → Device
after_get n d = if eqb n 2 then (λ _. with_flags false d.lost d) otherwise λ _. d

-- "Putting to register 0 clears those of bits 0 and 1 that are 1 in the value; putting to register 2 does nothing. The other registers
-- hold what was put."
abbrev pub after_put : (register value : ℕ) → Device → Device
after_put zero v d = with_flags (d.arrived && not (bit 0 v)) (d.lost && not (bit 1 v)) d
after_put (suc zero) v d =
    record { arrived = d.arrived; lost = d.lost; mask = v; reading = d.reading; others = d.others; tape = d.tape }
after_put (suc (suc zero)) v d = d
after_put (suc (suc (suc n))) v d =
    record { arrived = d.arrived; lost = d.lost; mask = d.mask; reading = d.reading; others = set d.others n v; tape = d.tape }

-- the device that a strip of registers shows, of whose register 0 only the flags count, with so many samples taken from a tape
abbrev pub device_in : (tape strip : List ℕ) → (taken : ℕ) → Device
device_in t r n =
    record {
      arrived = bit 0 (get_or r 0 0);
      lost = bit 1 (get_or r 0 0);
      mask = get_or r 1 0;
      reading = get_or r 2 0;
      others = drop 3 r;
      tape = drop n t;
    }
