-- All samples that are due come to one reading, that of the last that was on the tape; without one nothing changes.
use Prim.Native.Nat.{ℕ, suc, ◌+◌, ◌-◌, ◌≤◌, ◌<◌}
use native.Mathlib.Omega.{arith}
use mathlib.Core.Bool.{Bool, true, ◌||◌}
use mathlib.Core.List.{List, [], ◌∷◌}
use mathlib.Core.Logic.{◌⊎◌, inl, inr}
use mathlib.Core.Path.{◌≡◌, refl, sym, ap, ap₂, ◌∙◌, subst}
use lib.ListN.{length, get_or, set, drop, length-drop, drop_of_length-le}
use lib.Seq.{drop-drop, get_or-drop}
use lib.Dec.{leb}
use Rattle.std.proofs.Common.{min}
use Rattle.device.specs.Device as Device
use Rattle.device.specs.Device.{Device}
use Rattle.device.specs.laws.Samples.{samples, with_tape, samples-past, samples-seen, samples-end}
use Rattle.device.specs.promises.Holding.{Held, held_in, device_of, CaughtUp, Looks, LesserOf}
use Rattle.device.proofs.StateLaws.{flags, flagged}

pub lesser : {a b r : ℕ} → r ≡ min a b → LesserOf a b r
lesser {a} {b} e = record { below = grind (arith, e); within = grind (arith, e); one = grind (arith, e) }

-- the strip with a reading, which arrived
abbrev pub reading : List ℕ → (lost : Bool) (byte : ℕ) → List ℕ
reading s l b = set (set s 0 (flags true l)) 2 b

module _ (t : List ℕ) (d : Held) (due last : ℕ) (h : d.taken ≤ due) (w : LesserOf due (length t) last) where
  -- the device with other tape bytes to come, after so many samples
  abbrev after : ℕ → List ℕ → Device
  after k r = samples k (with_tape r (device_of t d))

  none_read : last ≤ d.taken → CaughtUp t due d (held_in d.strip due)
  unfolding samples
  none_read l = record { taken = refl; is = go w.one }
    where
      go : (last ≡ due) ⊎ (last ≡ length t) → device_of t (held_in d.strip due) ≡ samples (due - d.taken) (device_of t d)
      go (inl e) =
          let q : due ≡ d.taken = omega (arith, e, l, h) in
          let z : 0 ≡ due - d.taken = omega (arith, q) in
          ap (λ (k : ℕ). with_tape (drop k t) (device_of t d)) q ∙ ap (λ (k : ℕ). after k (drop d.taken t)) z
      go (inr e) =
          ap (λ (r : List ℕ). with_tape r (device_of t d)) (drop_of_length-le t {i = due} (omega (arith, e, l, h)))
          ∙ sym (samples-past (due - d.taken) (device_of t d))
          ∙ ap (λ (r : List ℕ). after (due - d.taken) r) (sym (drop_of_length-le t {i = d.taken} (omega (arith, e, l))))

  -- the device of such a strip
  read_is : (s : List ℕ) (l : Bool) (b : ℕ) → length s ≡ 16
      → device_of t (held_in (reading s l b) due)
      ≡ record { arrived = true; lost = l; mask = get_or s 1 0; reading = b; others = drop 3 s; tape = drop due t }
  read_is [] l b e = absurd (omega (arith, e))
  read_is (f ∷ []) l b e = absurd (omega (arith, e))
  read_is (f ∷ m ∷ []) l b e = absurd (omega (arith, e))
  read_is (f ∷ m ∷ r ∷ o) l b e = flagged (f ∷ m ∷ b ∷ o) true l (omega arith) t due

  abbrev read-device : Bool → ℕ → List ℕ → Device
  read-device x b r =
      record { arrived = true; lost = x; mask = get_or d.strip 1 0; reading = b; others = drop 3 d.strip; tape = r }

  -- the samples that are due and were on the tape
  module _ (l : d.taken < last) where
    abbrev more : ℕ
    more = last - d.taken - 1

    abbrev rest : List ℕ
    rest = drop d.taken t

    on-tape : more < length rest
    on-tape = omega (arith, length-drop d.taken t, w.within, l)

    as_many : (last ≡ due) ⊎ (last ≡ length t) → after (due - d.taken) rest ≡ after (suc more) rest
    as_many (inl e) = ap (λ (k : ℕ). after k rest) (omega (arith, e, l))
    as_many (inr e) =
        samples-end (due - d.taken) rest (device_of t d) (omega (arith, length-drop d.taken t, e, w.below))
        ∙ ap (λ (k : ℕ). after k rest) (omega (arith, length-drop d.taken t, e, l))

    left_over : (last ≡ due) ⊎ (last ≡ length t) → drop (suc more) rest ≡ drop due t
    left_over (inl e) =
        let q : d.taken + suc more ≡ due = omega (arith, e, l) in
        drop-drop (suc more) d.taken t ∙ ap (λ (k : ℕ). drop k t) q
    left_over (inr e) =
        drop-drop (suc more) d.taken t
        ∙ drop_of_length-le t {i = d.taken + suc more} (omega (arith, e, l))
        ∙ sym (drop_of_length-le t {i = due} (omega (arith, e, w.below)))

    last-read : {x : Bool} {b : ℕ} → length d.strip ≡ 16
        → x ≡ (((device_of t d).lost || (device_of t d).arrived) || leb 1 more) → b ≡ get_or t (last - 1) 0
        → CaughtUp t due d (held_in (reading d.strip x b) due)
    last-read {x} {b} n e v =
        record {
          taken = refl;
          is =
              read_is d.strip x b n
              ∙ sym (
              as_many w.one
              ∙ samples-seen more rest (device_of t d) on-tape
              ∙ ap (λ (x : Bool). read-device x (get_or rest more 0) (drop (suc more) rest)) (sym e)
              ∙ ap₂ (λ (b : ℕ) (r : List ℕ). read-device x b r)
              (get_or-drop d.taken t more 0 ∙ ap (λ (k : ℕ). get_or t k 0) (omega (arith, l)) ∙ sym v)
              (left_over w.one)
              );
        }

-- where no sample is due that was taken before
module _ {t s : List ℕ} {taken due last : ℕ} (w : LesserOf due (length t) last) where
  pub looks-none : last ≤ taken → Looks t due (held_in s taken) (held_in s due)
  looks-none l = record { says = λ h. none_read t (held_in s taken) due last h w l }

  pub looks-last : {b : ℕ} {x arrived lost : Bool} {s₁ : List ℕ} → taken < last → length s ≡ 16 → lost ≡ Device.bit 1 (get_or s 0 0)
      → arrived ≡ Device.bit 0 (get_or s 0 0) → x ≡ ((lost || arrived) || leb 1 (last - taken - 1)) → b ≡ get_or t (last - 1) 0
      → s₁ ≡ set s 0 (flags true x) → Looks t due (held_in s taken) (held_in (set s₁ 2 b) due)
  looks-last {b} {x} {s₁ = s₁} l n p q e v f =
      let y : x ≡ ((Device.bit 1 (get_or s 0 0) || Device.bit 0 (get_or s 0 0)) || leb 1 (last - taken - 1)) =
      e ∙ ap₂ (λ (l a : Bool). (l || a) || leb 1 (last - taken - 1)) p q in
      record {
        says = λ h.
            subst (λ (r : List ℕ). CaughtUp t due (held_in s taken) (held_in (set r 2 b) due)) (sym f)
            (last-read t (held_in s taken) due last h w l n y v);
      }
