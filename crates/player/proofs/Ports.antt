-- Frames over the register strip.
use Prim.Native.Nat.{ℕ, ◌+◌, ◌-◌, ◌≤◌, ◌<◌}
use native.Mathlib.Omega.{arith}
use mathlib.Core.List.{List}
use mathlib.Core.Path.{◌≡◌, refl, sym, ap, ap₂, ◌∙◌}
use lib.ListN.{length, get_or, set, take, drop, length-drop}
use lib.Seq.{take_all}
use lib.Dec.{ltb, eqb}
use borrow.Author.Tests.{lt-ltb, le-ltb, eq-eqb, ne_eqb}
use Rattle.base.specs.Choice.{if◌then◌otherwise◌}
use Rattle.device.specs.Device.{Device, registers, sample, after_get, after_put}
use Rattle.device.specs.promises.Holding as Holding
use Rattle.device.specs.promises.Holding.{held_in, registers_of, Alters, Looks}
use Rattle.device.specs.laws.Samples.{samples}
use Rattle.device.specs.Device.{device_in}
use Rattle.std.specs.Prelude.{Option as Maybe, Some, Result, Ok, Err}
use Rattle.base.specs.declared.refusal.Reason.{Reason}
use Rattle.base.specs.declared.refusal.Reason.TheVariants as reason
use Rattle.frames.specs.Machine as Machine
use Rattle.frames.specs.Machine.{goes, do_get, do_put, do_mark}
use Rattle.player.specs.promises.Turning.{OnPort, Sampled, Marks, Value, state_of, turn_of}
use Rattle.player.specs.declared.state.Machine.{Machine}
use Rattle.player.proofs.Tests.{allowed-yes, allowed-no, yes-is, no-is}
use Rattle.player.proofs.Stacks.{two-is, not-two}

-- the strip after a change of the device and the completion of register 0
shown-as : (f : Device → Device) (tape g g' g'' : List ℕ) (n : ℕ) → Alters f g g' → g'' ≡ registers_of (held_in g' 0)
    → registers (f (Holding.device_of tape (held_in g n))) ≡ g''
shown-as f tape g g' g'' n w e = sym (ap registers ((w n).is tape)) ∙ sym e

-- other counts of the device
abbrev pub served : Machine → (height tape marks : ℕ) → Machine
served m h t n =
    record { line = m.line + 1; height = h; calls = m.calls; words = m.words; printed = m.printed; tape = t; marks = n }

module _ {x : ℕ} {m : Machine} {stack g : List ℕ} where
  pub put-none : {r : Result Machine (Maybe Reason)} {e : Reason} → Value stack m.height 2 (Err e) → r ≡ Err (Some e) → OnPort do_put x m stack stack g g r
  unfolding do_put
  put-none w i =
      record {
        says = λ A h o.
            not-two w (state_of m stack h o g) refl refl _ ∙ sym (ap (λ (r : Result Machine (Maybe Reason)). turn_of r stack h o g) i);
        still = λ _ _. refl;
      }

  pub put-one : {r : Result Machine (Maybe Reason)} {e : Reason} {n : ℕ} → Value stack m.height 2 (Ok n) → Value stack m.height 1 (Err e) → r ≡ Err (Some e)
      → OnPort do_put x m stack stack g g r
  unfolding do_put
  put-one v w i =
      record {
        says = λ A h o.
            two-is v w (state_of m stack h o g) refl refl _ ∙ sym (ap (λ (r : Result Machine (Maybe Reason)). turn_of r stack h o g) i);
        still = λ _ _. refl;
      }

  pub put-register : {n v : ℕ} → Value stack m.height 2 (Ok n) → Value stack m.height 1 (Ok v) → 16 ≤ n
      → OnPort do_put x m stack stack g g (Err (Some reason.RegisterOutOfRange))
  unfolding do_put
  put-register {n} {v} u w l =
      record {
        says = λ A h o. two-is u w (state_of m stack h o g) refl refl _ ∙ allowed-no 63 (ltb n 16) _ (le-ltb n 16 l);
        still = λ _ _. refl;
      }

  pub put-value : {n v : ℕ} → Value stack m.height 2 (Ok n) → Value stack m.height 1 (Ok v) → n < 16 → 256 ≤ v
      → OnPort do_put x m stack stack g g (Err (Some reason.ValueOutOfRange))
  unfolding do_put
  put-value {n} {v} u w k l =
      record {
        says = λ A h o.
            two-is u w (state_of m stack h o g) refl refl _ ∙ allowed-yes 63 (ltb n 16) _ (lt-ltb n 16 k)
            ∙ allowed-no 64 (ltb v 256) _ (le-ltb v 256 l);
        still = λ _ _. refl;
      }

  pub puts : {n v : ℕ} {g' g'' : List ℕ} → Value stack m.height 2 (Ok n) → Value stack m.height 1 (Ok v) → n < 16 → v < 256
      → Alters (after_put n v) g g' → g'' ≡ registers_of (held_in g' 0)
      → OnPort do_put x m stack stack g g'' (Ok (served m (m.height - 2) m.tape m.marks))
  unfolding do_put
  puts {n} {v} {g'} {g''} u w k l q d =
      record {
        says = λ A h o.
            two-is u w (state_of m stack h o g) refl refl _ ∙ allowed-yes 63 (ltb n 16) _ (lt-ltb n 16 k)
            ∙ allowed-yes 64 (ltb v 256) _ (lt-ltb v 256 l)
            ∙ ap (λ (t : List ℕ). goes (state_of (served m (m.height - 2) m.tape m.marks) stack h o t))
            (shown-as (after_put n v) A.tape g g' g'' m.tape q d);
        still = λ e f. absurd (cc);
      }

  pub get_none : {r : Result Machine (Maybe Reason)} {e : Reason} → Value stack m.height 1 (Err e) → r ≡ Err (Some e) → OnPort do_get x m stack stack g g r
  unfolding do_get Machine.one
  get_none w i =
      record {
        says = λ A h o.
            w.says (state_of m stack h o g) refl refl _ ∙ sym (ap (λ (r : Result Machine (Maybe Reason)). turn_of r stack h o g) i);
        still = λ _ _. refl;
      }

  pub get-register : {n : ℕ} → Value stack m.height 1 (Ok n) → 16 ≤ n → OnPort do_get x m stack stack g g (Err (Some reason.RegisterOutOfRange))
  unfolding do_get Machine.one
  get-register {n} w l =
      record {
        says = λ A h o. w.says (state_of m stack h o g) refl refl _ ∙ allowed-no 63 (ltb n 16) _ (le-ltb n 16 l);
        still = λ _ _. refl;
      }

  pub gets : {n v : ℕ} {g' g'' : List ℕ} → Value stack m.height 1 (Ok n) → n < 16
      → v ≡ get_or (registers_of (held_in g 0)) n 0 → Alters (after_get n) g g' → g'' ≡ registers_of (held_in g' 0)
      → OnPort do_get x m stack (set stack (2176 + (m.height - 1)) v) g g'' (Ok (served m m.height m.tape m.marks))
  unfolding do_get Machine.one
  gets {n} {v} {g'} {g''} w l q u d =
      record {
        says = λ A h o.
            w.says (state_of m stack h o g) refl refl _ ∙ allowed-yes 63 (ltb n 16) _ (lt-ltb n 16 l)
            ∙ ap (λ (y : ℕ). goes (state_of (served m m.height m.tape m.marks) (set stack (2176 + (m.height - 1)) y) h o
            (registers (after_get n (Holding.device_of A.tape (held_in g m.tape)))))) (sym q)
            ∙ ap (λ (t : List ℕ). goes (state_of (served m m.height m.tape m.marks) (set stack (2176 + (m.height - 1)) v) h o t))
            (shown-as (after_get n) A.tape g g' g'' m.tape u d);
        still = λ e f. absurd (cc);
      }

-- MARK

-- the next sample is the first of what is left of the tape
pub takes_one : {tape g g' g'' : List ℕ} {taken n : ℕ} → taken < length tape
    → Looks (take (length tape - taken) (drop taken tape)) 1 (held_in g 0) (held_in g' n) → g'' ≡ registers_of (held_in g' 0)
    → Sampled tape taken g g'' (taken + 1)
unfolding samples
takes_one {tape} {g} {g'} {g''} {taken} l w e =
    let z = take_all (length tape - taken) (drop taken tape) (omega (arith, length-drop taken tape)) in
    record {
      shows = ap (λ (t : List ℕ). registers (sample (device_in t g 0))) (sym z) ∙ sym (ap registers (w.says (omega arith)).is) ∙ sym e;
      count = yes-is (ltb taken (length tape)) _ _ (lt-ltb taken (length tape) l);
    }

module _ {x : ℕ} {tape : List ℕ} {m : Machine} {g : List ℕ} where
  pub marks-on : m.marks + 1 < 100 → registers_of (held_in g 0) ≡ g → Marks x tape m g g (served m m.height m.tape (m.marks + 1))
  unfolding do_mark
  marks-on l p =
      record {
        says = λ A k h o z.
            no-is (eqb (m.marks + 1) 100) _ _ (ne_eqb (m.marks + 1) 100 λ y. omega (arith, l, y))
            ∙ ap (λ (t : List ℕ). goes (state_of (served m m.height m.tape (m.marks + 1)) k h o t)) p;
      }

  pub marks-hundredth : {t : ℕ} {g' : List ℕ} → m.marks ≤ 99 → 100 ≤ m.marks + 1 → Sampled tape m.tape g g' t
      → Marks x tape m g g' (served m m.height t 0)
  unfolding do_mark
  marks-hundredth {t} {g'} b l w =
      record {
        says = λ A k h o z.
            yes-is (eqb (m.marks + 1) 100) _ _ (eq-eqb (m.marks + 1) 100 (omega (arith, l, b)))
            ∙ ap (λ (u : List ℕ). goes (state_of (served m m.height (if ltb m.tape (length u) then
            (λ _. m.tape + 1) otherwise λ _. m.tape) 0) k h o
            (registers (sample (device_in u g m.tape))))) z
            ∙ ap₂ (λ (y : ℕ) (u : List ℕ). goes (state_of (served m m.height y 0) k h o u)) w.count w.shows;
      }
