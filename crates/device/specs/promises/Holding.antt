-- The device as the code holds it, and what each function leaves of it.
use Rattle.std.specs.Prelude.{ℕ, ◌-◌, ◌≤◌, List, [], ◌≡◌, ◌⊎◌}
use Rattle.device.specs.Device.{Device, reset, registers, device_in}
use Rattle.device.specs.laws.Samples.{samples}

-- the register strip, of whose register 0 only the flags count, and how many samples were due so far
pub record Held : Type 0 where
  pub strip : List ℕ
  pub taken : ℕ

abbrev pub held_in : (strip : List ℕ) (taken : ℕ) → Held
held_in s n = record { strip = s; taken = n }

-- the device that the code holds: the samples that were due so far are taken from the tape
abbrev pub device_of : (tape : List ℕ) → Held → Device
device_of t h = device_in t h.strip h.taken

-- its registers, whatever is on the tape
abbrev pub registers_of : Held → List ℕ
registers_of h = registers (device_of [] h)

-- as a run begins
pub record Rests (h : Held) : Type 0 where
  pub taken : h.taken ≡ 0
  pub is : (tape : List ℕ) → device_of tape h ≡ reset tape

-- after a function that does not look at the tape
pub record Becomes (f : Device → Device) (before after : Held) : Type 0 where
  pub same : after.taken ≡ before.taken
  pub is : (tape : List ℕ) → device_of tape after ≡ f (device_of tape before)

-- the same of the strip, however many samples were due
abbrev pub Alters : (f : Device → Device) (before after : List ℕ) → Type 0
Alters f s s' = (taken : ℕ) → Becomes f (held_in s taken) (held_in s' taken)

-- after all samples that are due
pub record CaughtUp (tape : List ℕ) (due : ℕ) (before after : Held) : Type 0 where
  pub taken : after.taken ≡ due
  pub is : device_of tape after ≡ samples (due - before.taken) (device_of tape before)

-- after a look: up to date where no sample is due that was taken before
pub record Looks (tape : List ℕ) (due : ℕ) (before after : Held) : Type 0 where
  pub says : before.taken ≤ due → CaughtUp tape due before after

-- the lesser of two numbers
pub record LesserOf (a b r : ℕ) : Type 0 where
  pub below : r ≤ a
  pub within : r ≤ b
  pub one : (r ≡ a) ⊎ (r ≡ b)
