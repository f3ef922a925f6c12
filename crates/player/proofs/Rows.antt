-- Frames over the row of the last call and its receiver.
use Prim.Native.Nat.{ℕ, ◌+◌, ◌-◌, ◌≤◌, ◌<◌}
use native.Mathlib.Omega.{arith}
use mathlib.Core.Bool.{Bool, true, false, ◌&&◌}
use mathlib.Core.List.{List}
use mathlib.Core.Logic.{◌⊎◌, inl, inr}
use mathlib.Core.Path.{◌≡◌, refl, sym, ap, ap₂, ◌∙◌}
use lib.ListN.{get_or, set}
use lib.IntN.{ℤ}
use lib.Dec.{ltb, leb}
use borrow.Author.Tests.{lt-ltb, le-ltb, le-leb, lt-leb}
use Rattle.std.specs.Prelude.{Option as Maybe, Some, Result, Ok, Err}
use Rattle.base.specs.declared.refusal.Reason.{Reason}
use Rattle.base.specs.declared.refusal.Reason.TheVariants as reason
use Rattle.frames.specs.Machine as Machine
use Rattle.frames.specs.Machine.{State, Turn, goes, ends, bad, sure, word, field, leave}
use Rattle.frames.specs.Machine.{do_load, do_save, do_self, do_return}
use Rattle.player.specs.promises.Reading.{followed}
use Rattle.player.specs.promises.Turning.{OnStack, OnHeap, IsWord, Value, Room, NoOperand, Inner, Stored, Field, Held, state_of}
use Rattle.player.specs.declared.state.Machine.{Machine}
use Rattle.player.proofs.Tests.{sure-yes, sure-no, yes-is, no-is}
use Rattle.player.proofs.Stacks.{next, ends-on, leaves}
use Rattle.player.proofs.Heaps.{stops, leaves-it}

-- FIELDS

module _ {words entry : ℕ} where
  pub large-receiver : {x : ℕ} {n : Reason} {r : Result ℕ Reason} → IsWord entry (Err n) → r ≡ Err n → Field words entry x r
  unfolding field
  large-receiver {x} {n} {r} w e =
      record {
        says = λ s c p q k.
            ap (λ (v : ℕ). word v λ r. sure (leb 1 r && ltb (r + (x - 32)) s.words) λ _. k (r + (x - 32))) q ∙ w.says _
            ∙ sym (ap (λ (r : Result ℕ Reason). followed r k) e);
        within = λ j f. absurd (cc);
      }

  tested : (x : ℕ) {r : ℕ} → IsWord entry (Ok r) → (b : Bool) → leb 1 r ≡ b → (s : State) (c : ℕ) → s.words ≡ words → get_or s.stack c 0 ≡ entry
      → (k : ℕ → Turn) → field s c x k ≡ sure (b && ltb (r + (x - 32)) words) λ _. k (r + (x - 32))
  unfolding field
  tested x {r} w b t s c p q k =
      ap (λ (v : ℕ). word v λ r. sure (leb 1 r && ltb (r + (x - 32)) s.words) λ _. k (r + (x - 32))) q ∙ w.says _
      ∙ ap₂ (λ (b : Bool) (n : ℕ). sure (b && ltb (r + (x - 32)) n) λ _. k (r + (x - 32))) t p

  pub no_field : {x r : ℕ} → IsWord entry (Ok r) → (r < 1) ⊎ ((1 ≤ r) × (words ≤ r + (x - 32))) → Field words entry x (Err reason.FrameFault)
  no_field {x} {r} w (inl l) =
      record { says = λ s c p q k. tested x w false (lt-leb 1 r l) s c p q k ∙ sure-no false _ refl; within = λ j f. absurd (cc) }
  no_field {x} {r} w (inr (p, b)) =
      record {
        says = λ s c i q k.
            tested x w true (le-leb 1 r p) s c i q k ∙ sure-no (ltb (r + (x - 32)) words) _ (le-ltb (r + (x - 32)) words b);
        within = λ j f. absurd (cc);
      }

  pub a-field : {x r : ℕ} → IsWord entry (Ok r) → 1 ≤ r → r + (x - 32) < words → Field words entry x (Ok (r + (x - 32)))
  a-field {x} {r} w p b =
      record {
        says = λ s c i q k.
            tested x w true (le-leb 1 r p) s c i q k ∙ sure-yes (ltb (r + (x - 32)) words) _ (lt-ltb (r + (x - 32)) words b);
        within = λ j f. let e : r + (x - 32) ≡ j = cc in omega (arith, b, e);
      }

-- LOAD AND SAVE

module _ {x : ℕ} {m : Machine} {before : List ℕ} {heap : List ℤ} where
  pub load-full : {r : Result Machine (Maybe Reason)} {n : Reason} → Room before m.height (Err n) → r ≡ Err (Some n)
      → OnHeap do_load x m before before heap heap r
  unfolding do_load
  load-full t e = stops e λ A o g. t.says (state_of m before heap o g) refl refl _

  pub load-outside : {r : Result Machine (Maybe Reason)} {n : Reason} {top : ℕ} → Room before m.height (Ok top) → Inner m (Err n) → r ≡ Err (Some n)
      → OnHeap do_load x m before before heap heap r
  unfolding do_load
  load-outside t i e =
      stops e λ A o g. t.says (state_of m before heap o g) refl refl _ ∙ i.says (state_of m before heap o g) refl _

  pub load-none : {r : Result Machine (Maybe Reason)} {n : Reason} {top c : ℕ} → Room before m.height (Ok top) → Inner m (Ok c)
      → Held before heap m.words c x (Err n) → r ≡ Err (Some n)
      → OnHeap do_load x m before before heap heap r
  unfolding do_load
  load-none t i w e =
      stops e λ A o g.
      t.says (state_of m before heap o g) refl refl _ ∙ i.says (state_of m before heap o g) refl _
      ∙ w.says (state_of m before heap o g) refl refl refl _

  pub loads : {top c v : ℕ} → Room before m.height (Ok top) → Inner m (Ok c) → Held before heap m.words c x (Ok v)
      → OnHeap do_load x m before (set before top v) heap heap (Ok (next m (m.line + 1) (m.height + 1)))
  unfolding do_load
  loads {top} {c} {v} t i w =
      leaves-it 0 v (omega (arith, (t.top top refl).0)) (omega arith) λ A o g.
      t.says (state_of m before heap o g) refl refl _ ∙ i.says (state_of m before heap o g) refl _
      ∙ w.says (state_of m before heap o g) refl refl refl λ v. goes (leave (state_of m before heap o g) 0 v)

  pub save-none : {r : Result Machine (Maybe Reason)} {n : Reason} → Value before m.height 1 (Err n) → r ≡ Err (Some n)
      → OnHeap do_save x m before before heap heap r
  unfolding do_save Machine.one
  save-none w e = stops e λ A o g. w.says (state_of m before heap o g) refl refl _

  pub save-outside : {r : Result Machine (Maybe Reason)} {n : Reason} {v : ℕ} → Value before m.height 1 (Ok v) → Inner m (Err n) → r ≡ Err (Some n)
      → OnHeap do_save x m before before heap heap r
  unfolding do_save Machine.one
  save-outside w i e =
      stops e λ A o g. w.says (state_of m before heap o g) refl refl _ ∙ i.says (state_of m before heap o g) refl _

  pub saves-row : {v c : ℕ} → Value before m.height 1 (Ok v) → Inner m (Ok c) → x < 32
      → OnHeap do_save x m before (set before (c + 2 + x) v) heap heap (Ok (next m (m.line + 1) (m.height - 1)))
  unfolding do_save Machine.one
  saves-row w i l =
      record {
        says = λ A o g.
            w.says (state_of m before heap o g) refl refl _ ∙ i.says (state_of m before heap o g) refl _
            ∙ yes-is (ltb x 32) _ _ (lt-ltb x 32 l);
      }

  pub save-nowhere : {r : Result Machine (Maybe Reason)} {n : Reason} {v c : ℕ} → Value before m.height 1 (Ok v) → Inner m (Ok c) → 32 ≤ x
      → Field m.words (get_or before c 0) x (Err n) → r ≡ Err (Some n)
      → OnHeap do_save x m before before heap heap r
  unfolding do_save Machine.one
  save-nowhere {r} {n} {v} {c} w i l u e =
      stops e λ A o g.
      w.says (state_of m before heap o g) refl refl _ ∙ i.says (state_of m before heap o g) refl _
      ∙ no-is (ltb x 32) _ _ (le-ltb x 32 l) ∙ u.says (state_of m before heap o g) c refl refl _

  pub saves-field : {v c j : ℕ} {heap' : List ℤ} → Value before m.height 1 (Ok v) → Inner m (Ok c) → 32 ≤ x
      → Field m.words (get_or before c 0) x (Ok j) → Stored heap j v heap'
      → OnHeap do_save x m before before heap heap' (Ok (next m (m.line + 1) (m.height - 1)))
  unfolding do_save Machine.one
  saves-field {v} {c} {j} {heap'} w i l u d =
      record {
        says = λ A o g.
            w.says (state_of m before heap o g) refl refl _ ∙ i.says (state_of m before heap o g) refl _
            ∙ no-is (ltb x 32) _ _ (le-ltb x 32 l) ∙ u.says (state_of m before heap o g) c refl refl _
            ∙ ap (λ (t : List ℤ). goes (state_of (next m (m.line + 1) (m.height - 1)) before t o g)) (sym d.is);
      }

-- SELF AND RETURN

-- the last call closed
abbrev pub closed : Machine → (line : ℕ) → Machine
closed m l =
    record {
      line = l;
      height = m.height;
      calls = m.calls - 1;
      words = m.words;
      printed = m.printed;
      tape = m.tape;
      marks = m.marks;
    }

module _ {x : ℕ} {m : Machine} {before : List ℕ} where
  pub self-operand : {r : Result Machine (Maybe Reason)} {n : Reason} → NoOperand x (Err n) → r ≡ Err (Some n) → OnStack do_self x m before before r
  unfolding do_self
  self-operand z e = ends-on e λ A h o g. z.says _

  pub self-full : {r : Result Machine (Maybe Reason)} {n : Reason} {u : Unit {0}} → NoOperand x (Ok u) → Room before m.height (Err n) → r ≡ Err (Some n)
      → OnStack do_self x m before before r
  unfolding do_self
  self-full z t e = ends-on e λ A h o g. z.says _ ∙ t.says (state_of m before h o g) refl refl _

  pub self-outside : {r : Result Machine (Maybe Reason)} {n : Reason} {top : ℕ} {u : Unit {0}} → NoOperand x (Ok u) → Room before m.height (Ok top)
      → Inner m (Err n) → r ≡ Err (Some n)
      → OnStack do_self x m before before r
  unfolding do_self
  self-outside z t i e =
      ends-on e λ A h o g. z.says _ ∙ t.says (state_of m before h o g) refl refl _ ∙ i.says (state_of m before h o g) refl _

  pub self-none : {r : Result Machine (Maybe Reason)} {n : Reason} {top c : ℕ} {u : Unit {0}} → NoOperand x (Ok u) → Room before m.height (Ok top)
      → Inner m (Ok c) → IsWord (get_or before c 0) (Err n) → r ≡ Err (Some n)
      → OnStack do_self x m before before r
  unfolding do_self
  self-none z t i w e =
      ends-on e λ A h o g.
      z.says _ ∙ t.says (state_of m before h o g) refl refl _ ∙ i.says (state_of m before h o g) refl _ ∙ w.says _

  pub selves : {top c v : ℕ} {u : Unit {0}} → NoOperand x (Ok u) → Room before m.height (Ok top) → Inner m (Ok c)
      → IsWord (get_or before c 0) (Ok v)
      → OnStack do_self x m before (set before top v) (Ok (next m (m.line + 1) (m.height + 1)))
  unfolding do_self
  selves {top} {c} {v} z t i w =
      leaves 0 v (omega (arith, (t.top top refl).0)) (omega arith) λ A h o g.
      z.says _ ∙ t.says (state_of m before h o g) refl refl _ ∙ i.says (state_of m before h o g) refl _
      ∙ w.says λ v. goes (leave (state_of m before h o g) 0 v)

  pub return-operand : {r : Result Machine (Maybe Reason)} {n : Reason} → NoOperand x (Err n) → r ≡ Err (Some n) → OnStack do_return x m before before r
  unfolding do_return
  return-operand z e = ends-on e λ A h o g. z.says _

  pub return-outside : {r : Result Machine (Maybe Reason)} {n : Reason} {u : Unit {0}} → NoOperand x (Ok u) → Inner m (Err n) → r ≡ Err (Some n)
      → OnStack do_return x m before before r
  unfolding do_return
  return-outside z i e = ends-on e λ A h o g. z.says _ ∙ i.says (state_of m before h o g) refl _

  pub return-none : {r : Result Machine (Maybe Reason)} {n : Reason} {c : ℕ} {u : Unit {0}} → NoOperand x (Ok u) → Inner m (Ok c)
      → IsWord (get_or before (c + 1) 0) (Err n) → r ≡ Err (Some n)
      → OnStack do_return x m before before r
  unfolding do_return
  return-none z i w e = ends-on e λ A h o g. z.says _ ∙ i.says (state_of m before h o g) refl _ ∙ w.says _

  pub returns : {c l : ℕ} {u : Unit {0}} → NoOperand x (Ok u) → Inner m (Ok c) → IsWord (get_or before (c + 1) 0) (Ok l)
      → OnStack do_return x m before before (Ok (closed m l))
  unfolding do_return
  returns z i w = record { says = λ A h o g. z.says _ ∙ i.says (state_of m before h o g) refl _ ∙ w.says _ }
