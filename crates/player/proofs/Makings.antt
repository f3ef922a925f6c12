-- Words made on the heap strip: a header and zeros, and a reference to them in the place of values.
use Prim.Native.Nat.{ℕ, ◌+◌, ◌-◌, ◌/◌, ◌%◌, ◌≤◌, ◌<◌}
use native.Mathlib.Omega.{arith}
use mathlib.Core.List.{List, ◌++◌, append_assoc}
use mathlib.Core.Path.{◌≡◌, refl, sym, ap, ap₂, ◌∙◌}
use lib.ListN.{length, set, take, drop, replicate, length-set, length-replicate}
use lib.Seq.{sets, sets-eq}
use lib.IntN.{ℤ, pos}
use lib.Dec.{ltb, leb}
use borrow.Author.Tests.{lt-ltb, le-ltb, le-leb, lt-leb}
use borrow.Rule.Slice.PartMut.{put_mid, mid_of, mid_len, Post-is}
use Rattle.std.specs.Prelude.{Option as Maybe, Some, Result, Ok, Err}
use Rattle.base.specs.declared.refusal.Reason.{Reason}
use Rattle.base.specs.declared.refusal.Reason.TheVariants as reason
use Rattle.base.specs.Word.{signed}
use Rattle.frames.specs.Machine as Machine
use Rattle.frames.specs.Machine.{goes, makes, do_make_array, do_make_object}
use Rattle.player.specs.promises.Turning.{OnHeap, Value, Room, Stored, Filled, Makes, state_of}
use Rattle.player.specs.declared.state.Machine.{Machine}
use Rattle.player.proofs.Tests.{allowed-yes, allowed-no}
use Rattle.player.proofs.Heaps.{stops}

-- a part that is replaced is so many stores
pub stored-part : {X : Type 0} (a n : ℕ) (xs ys : List X) → length ys ≡ n → a + n ≤ length xs → put_mid a (a + n - a) xs ys ≡ sets xs a ys
stored-part {X} a n xs ys l h =
    ap (λ (t : List X). take a xs ++ (ys ++ t)) (Post-is a (a + n) xs (omega arith) ∙ ap (λ (k : ℕ). drop (a + k) xs) (sym l))
    ∙ sym (append_assoc (take a xs) ys (drop (a + length ys) xs)) ∙ sym (sets-eq ys xs a (omega (arith, l, h)))

pub fills : {heap heap' part : List ℤ} {at header n : ℕ} → at + 1 + n ≤ length heap → Stored heap at header heap'
    → part ≡ replicate (length (mid_of (at + 1) (at + 1 + n - (at + 1)) heap')) (pos 0)
    → Filled heap at header n (put_mid (at + 1) (at + 1 + n - (at + 1)) heap' part)
fills {heap} {heap'} {part} {at} {header} {n} h w e =
    let b : at + 1 + n ≤ length heap' = omega (arith, ap (λ (t : List ℤ). length t) w.is, length-set heap at (signed header)) in
    let k : length (mid_of (at + 1) (at + 1 + n - (at + 1)) heap') ≡ n = mid_len (at + 1) (at + 1 + n) heap' b ∙ omega arith in
    let p : part ≡ replicate n (pos 0) = e ∙ ap (λ (i : ℕ). replicate i (pos 0)) k in
    record {
      is =
          stored-part (at + 1) n heap' part (ap (λ (t : List ℤ). length t) p ∙ length-replicate n (pos 0)) b
          ∙ ap₂ (λ (s t : List ℤ). sets s (at + 1) t) w.is p
          ∙ ap (λ (i : ℕ). sets (set heap at (signed header)) i (replicate n (pos 0))) (omega arith);
    }

-- so many words made
abbrev pub made : Machine → (height words : ℕ) → Machine
made m h w =
    record { line = m.line + 1; height = h; calls = m.calls; words = w; printed = m.printed; tape = m.tape; marks = m.marks }

module _ {stack : List ℕ} {heap : List ℤ} {m : Machine} {height header n : ℕ} where
  pub heap-full : length heap < m.words + 1 + n → Makes stack stack heap heap m height header n (Err (Some reason.HeapFull))
  unfolding makes
  heap-full l = record { says = λ t z o g. allowed-no 51 (leb (m.words + 1 + n) (length heap)) _ (lt-leb (m.words + 1 + n) (length heap) l) }

  pub makes-there : {heap' : List ℤ} → m.words + 1 + n ≤ length heap → Filled heap m.words header n heap'
      → Makes stack (set stack (2176 + height) (m.words + 1)) heap heap' m height header n (Ok (made m (height + 1) (m.words + 1 + n)))
  unfolding makes
  makes-there {heap'} l w =
      record {
        says = λ t z o g.
            allowed-yes 51 (leb (m.words + 1 + n) (length heap)) _ (le-leb (m.words + 1 + n) (length heap) l)
            ∙ ap₂ (λ (h : ℕ) (t : List ℤ). goes (state_of (made m (h + 1) (m.words + 1 + n)) (set stack (2176 + h) (m.words + 1)) t o g)) (sym z)
            (sym w.is);
      }

module _ {x : ℕ} {m : Machine} {before : List ℕ} {heap : List ℤ} where
  pub array-none : {r : Result Machine (Maybe Reason)} {n : Reason} → Value before m.height 1 (Err n) → r ≡ Err (Some n)
      → OnHeap do_make_array x m before before heap heap r
  unfolding do_make_array Machine.one
  array-none w e = stops e λ A o g. w.says (state_of m before heap o g) refl refl _

  pub array-negative : {v : ℕ} → Value before m.height 1 (Ok v) → 2147483648 ≤ v
      → OnHeap do_make_array x m before before heap heap (Err (Some reason.NegativeSize))
  unfolding do_make_array Machine.one
  array-negative {v} w l =
      record {
        says = λ A o g. w.says (state_of m before heap o g) refl refl _ ∙ allowed-no 42 (ltb v 2147483648) _ (le-ltb v 2147483648 l);
      }

  pub makes-array : {v : ℕ} {r : Result Machine (Maybe Reason)} {after : List ℕ} {heap' : List ℤ} → Value before m.height 1 (Ok v) → v < 2147483648
      → Makes before after heap heap' m (m.height - 1) v v r → OnHeap do_make_array x m before after heap heap' r
  unfolding do_make_array Machine.one
  makes-array {v} w l u =
      record {
        says = λ A o g.
            w.says (state_of m before heap o g) refl refl _ ∙ allowed-yes 42 (ltb v 2147483648) _ (lt-ltb v 2147483648 l) ∙ u.says 1 refl o g;
      }

  pub object-full : {r : Result Machine (Maybe Reason)} {n : Reason} → Room before m.height (Err n) → r ≡ Err (Some n)
      → OnHeap do_make_object x m before before heap heap r
  unfolding do_make_object
  object-full t e = stops e λ A o g. t.says (state_of m before heap o g) refl refl _

  pub makes-object : {top : ℕ} {r : Result Machine (Maybe Reason)} {after : List ℕ} {heap' : List ℤ} → Room before m.height (Ok top)
      → Makes before after heap heap' m m.height (x / 65536) (x % 65536) r
      → OnHeap do_make_object x m before after heap heap' r
  unfolding do_make_object
  makes-object t u =
      record { says = λ A o g. t.says (state_of m before heap o g) refl refl _ ∙ u.says 0 (omega arith) o g }
