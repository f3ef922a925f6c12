-- Heap words, references and elements, and frames over the heap strip.
use Prim.Native.Nat.{ℕ, ◌+◌, ◌-◌, ◌≤◌, ◌<◌}
use native.Mathlib.Omega.{arith}
use mathlib.Core.List.{List}
use mathlib.Core.Path.{◌≡◌, refl, sym, ap, ap₂, ◌∙◌}
use lib.ListN.{length, get_or, set}
use lib.IntN.{ℤ, pos}
use lib.Dec.{ltb, leb, eqb}
use borrow.Author.Tests.{lt-ltb, le-ltb, le-leb, lt-leb, eq-eqb, ne_eqb}
use Rattle.std.specs.Prelude.{Option as Maybe, Some, Result, Ok, Err}
use Rattle.base.specs.declared.refusal.Reason.{Reason}
use Rattle.base.specs.declared.refusal.Reason.TheVariants as reason
use Rattle.base.specs.Word.{low}
use Rattle.frames.specs.Machine as Machine
use Rattle.frames.specs.Machine.{State, Around, Turn, goes, ends, leave, making, reference, element, heap_word}
use Rattle.frames.specs.Machine.{do_fetch, do_measure, do_store_element, do_print, showing}
use Rattle.player.specs.promises.Reading.{followed}
use Rattle.player.specs.promises.Turning.{OnHeap, OnOutput, Value, Cell, Stored, Header, Element, number_in, state_of, turn_of}
use Rattle.player.specs.declared.state.Machine.{Machine}
use Rattle.player.proofs.Tests.{sure-yes, sure-no, allowed-yes, allowed-no, yes-is, no-is}
use Rattle.player.proofs.Stacks.{next, two-is, not-two, three-is, three-not, not-three}

-- WHAT IS READ AND WRITTEN

pub null : {words r : ℕ} → r < 1 → Header words r (Err reason.NullReference)
unfolding reference
null {words} {r} l = record { says = λ s w k. yes-is (eqb r 0) _ _ (eq-eqb r 0 (omega (arith, l))); at = λ i q. absurd (cc) }

pub unmade : {words r : ℕ} → 1 ≤ r → words ≤ r - 1 → Header words r (Err reason.FrameFault)
unfolding reference
unmade {words} {r} n l =
    record {
      says = λ s w k.
          no-is (eqb r 0) _ _ (ne_eqb r 0 λ q. omega (arith, n, q)) ∙ sure-no (leb r s.words) k (lt-leb r s.words
          (omega (arith, n, l, w)));
      at = λ i q. absurd (cc);
    }

pub refers : {words r : ℕ} → 1 ≤ r → r - 1 < words → Header words r (Ok (r - 1))
unfolding reference
refers {words} {r} n l =
    record {
      says = λ s w k.
          no-is (eqb r 0) _ _ (ne_eqb r 0 λ q. omega (arith, n, q)) ∙ sure-yes (leb r s.words) k (le-leb r s.words
          (omega (arith, n, l, w)));
      at = λ i q. let e : r - 1 ≡ i = cc in (sym e, omega (arith, l, e));
    }

pub no_array : {heap : List ℤ} {words array i : ℕ} {n : Reason} {r : Result ℕ Reason} → Header words array (Err n) → r ≡ Err n
    → Element heap words array i r
unfolding element
no_array {heap} {words} {array} {i} {n} {r} w e =
    record {
      says = λ s p q k. w.says s p _ ∙ sym (ap (λ (r : Result ℕ Reason). followed r k) e);
      within = λ j f. absurd (cc);
    }

tested : {heap : List ℤ} {words array at c : ℕ} (i : ℕ) → Header words array (Ok at) → Cell heap at c → (s : State) → s.words ≡ words
    → s.heap ≡ heap → (k : Unit {0} → Turn) → Machine.allowed 41 (ltb i (heap_word s (array - 1))) k ≡ Machine.allowed 41 (ltb i c) k
tested {heap} {words} {array} {at} {c} i w v s p q k =
    ap₂ (λ (t : List ℤ) (j : ℕ). Machine.allowed 41 (ltb i (low 32 (get_or t j (pos 0)))) k) q (sym (w.at at refl).0)
    ∙ ap (λ (y : ℕ). Machine.allowed 41 (ltb i y) k) (sym v.is)

pub beyond : {heap : List ℤ} {words array i at c : ℕ} → Header words array (Ok at) → Cell heap at c → c ≤ i
    → Element heap words array i (Err reason.IndexOutOfRange)
unfolding element
beyond {heap} {words} {array} {i} {at} {c} w v l =
    record {
      says = λ s p q k. w.says s p _ ∙ tested i w v s p q _ ∙ allowed-no 41 (ltb i c) _ (le-ltb i c l);
      within = λ j f. absurd (cc);
    }

pub outside : {heap : List ℤ} {words array i at c : ℕ} → Header words array (Ok at) → Cell heap at c → i < c → words ≤ array + i
    → Element heap words array i (Err reason.FrameFault)
unfolding element
outside {heap} {words} {array} {i} {at} {c} w v l b =
    record {
      says = λ s p q k.
          w.says s p _ ∙ tested i w v s p q _ ∙ allowed-yes 41 (ltb i c) _ (lt-ltb i c l)
          ∙ sure-no (ltb (array + i) s.words) _ (le-ltb (array + i) s.words (omega (arith, b, p)));
      within = λ j f. absurd (cc);
    }

pub element-is : {heap : List ℤ} {words array i at c : ℕ} → Header words array (Ok at) → Cell heap at c → i < c → array + i < words
    → Element heap words array i (Ok (array + i))
unfolding element
element-is {heap} {words} {array} {i} {at} {c} w v l b =
    record {
      says = λ s p q k.
          w.says s p _ ∙ tested i w v s p q _ ∙ allowed-yes 41 (ltb i c) _ (lt-ltb i c l)
          ∙ sure-yes (ltb (array + i) s.words) _ (lt-ltb (array + i) s.words (omega (arith, b, p)));
      within = λ j f. let e : array + i ≡ j = cc in omega (arith, b, e);
    }

-- WHAT A FRAME COMES TO

module _ {f : Machine.Does} {x : ℕ} {m : Machine} {before : List ℕ} {heap : List ℤ} where
  -- the run ends
  pub stops : {r : Result Machine (Maybe Reason)} {n : Maybe Reason} {after : List ℕ} {heap' : List ℤ} → r ≡ Err n
      → ((A : Around) (o : List ℤ) (g : List ℕ) → f A x (state_of m before heap o g) ≡ ends (number_in n)) → OnHeap f x m before after heap heap' r
  stops {r} {n} {after} {heap'} e p =
      record { says = λ A o g. p A o g ∙ sym (ap (λ (r : Result Machine (Maybe Reason)). turn_of r after heap' o g) e) }

  -- a value in the place of n others
  pub leaves-it : {at up : ℕ} (n v : ℕ) → at ≡ 2176 + (m.height - n) → up ≡ m.height - n + 1
      → ((A : Around) (o : List ℤ) (g : List ℕ) → f A x (state_of m before heap o g) ≡ goes (leave (state_of m before heap o g) n v))
      → OnHeap f x m before (set before at v) heap heap (Ok (next m (m.line + 1) up))
  leaves-it {at} {up} n v a u p =
      record {
        says = λ A o g.
            p A o g
            ∙ ap₂ (λ (i j : ℕ). goes (state_of (next m (m.line + 1) j) (set before i v) heap o g)) (sym a) (sym u);
      }

module _ {x : ℕ} {m : Machine} {before : List ℕ} {heap : List ℤ} where
  pub fetch-none : {r : Result Machine (Maybe Reason)} {n : Reason} → Value before m.height 2 (Err n) → r ≡ Err (Some n)
      → OnHeap do_fetch x m before before heap heap r
  unfolding do_fetch
  fetch-none w e = stops e λ A o g. not-two w (state_of m before heap o g) refl refl _

  pub fetch-one : {r : Result Machine (Maybe Reason)} {n : Reason} {a : ℕ} → Value before m.height 2 (Ok a) → Value before m.height 1 (Err n) → r ≡ Err (Some n)
      → OnHeap do_fetch x m before before heap heap r
  unfolding do_fetch
  fetch-one v w e = stops e λ A o g. two-is v w (state_of m before heap o g) refl refl _

  pub fetch-wrong : {r : Result Machine (Maybe Reason)} {n : Reason} {a i : ℕ} → Value before m.height 2 (Ok a) → Value before m.height 1 (Ok i)
      → Element heap m.words a i (Err n) → r ≡ Err (Some n)
      → OnHeap do_fetch x m before before heap heap r
  unfolding do_fetch
  fetch-wrong v w u e =
      stops e λ A o g.
      two-is v w (state_of m before heap o g) refl refl _ ∙ u.says (state_of m before heap o g) refl refl _

  pub fetches : {a i j y : ℕ} → Value before m.height 2 (Ok a) → Value before m.height 1 (Ok i)
      → Element heap m.words a i (Ok j) → Cell heap j y
      → OnHeap do_fetch x m before (set before (2176 + (m.height - 2)) y) heap heap (Ok (next m (m.line + 1) (m.height - 1)))
  unfolding do_fetch
  fetches {a} {i} {j} {y} v w u c =
      leaves-it 2 y refl (omega (arith, v.some a refl)) λ A o g.
      two-is v w (state_of m before heap o g) refl refl _ ∙ u.says (state_of m before heap o g) refl refl _
      ∙ ap (λ (y : ℕ). goes (leave (state_of m before heap o g) 2 y)) (sym c.is)

  pub measure-none : {r : Result Machine (Maybe Reason)} {n : Reason} → Value before m.height 1 (Err n) → r ≡ Err (Some n)
      → OnHeap do_measure x m before before heap heap r
  unfolding do_measure Machine.one
  measure-none w e = stops e λ A o g. w.says (state_of m before heap o g) refl refl _

  pub measure-wrong : {r : Result Machine (Maybe Reason)} {n : Reason} {a : ℕ} → Value before m.height 1 (Ok a) → Header m.words a (Err n) → r ≡ Err (Some n)
      → OnHeap do_measure x m before before heap heap r
  unfolding do_measure Machine.one
  measure-wrong w u e =
      stops e λ A o g. w.says (state_of m before heap o g) refl refl _ ∙ u.says (state_of m before heap o g) refl _

  pub measures : {a i y : ℕ} → Value before m.height 1 (Ok a) → Header m.words a (Ok i) → Cell heap i y
      → OnHeap do_measure x m before (set before (2176 + (m.height - 1)) y) heap heap (Ok (next m (m.line + 1) m.height))
  unfolding do_measure Machine.one
  measures {a} {i} {y} w u c =
      leaves-it 1 y refl (omega (arith, w.some a refl)) λ A o g.
      w.says (state_of m before heap o g) refl refl _ ∙ u.says (state_of m before heap o g) refl _
      ∙ ap (λ (y : ℕ). goes (leave (state_of m before heap o g) 1 y)) (ap (λ (k : ℕ). low 32 (get_or heap k (pos 0))) (sym (u.at i refl).0)
      ∙ sym c.is)

  pub store-none : {r : Result Machine (Maybe Reason)} {n : Reason} → Value before m.height 3 (Err n) → r ≡ Err (Some n)
      → OnHeap do_store_element x m before before heap heap r
  unfolding do_store_element
  store-none w e = stops e λ A o g. not-three w (state_of m before heap o g) refl refl _

  pub store-one : {r : Result Machine (Maybe Reason)} {n : Reason} {a : ℕ} → Value before m.height 3 (Ok a) → Value before m.height 2 (Err n) → r ≡ Err (Some n)
      → OnHeap do_store_element x m before before heap heap r
  unfolding do_store_element
  store-one u w e = stops e λ A o g. three-not u w (state_of m before heap o g) refl refl _

  pub store-two : {r : Result Machine (Maybe Reason)} {n : Reason} {a i : ℕ} → Value before m.height 3 (Ok a) → Value before m.height 2 (Ok i)
      → Value before m.height 1 (Err n) → r ≡ Err (Some n)
      → OnHeap do_store_element x m before before heap heap r
  unfolding do_store_element
  store-two u v w e = stops e λ A o g. three-is u v w (state_of m before heap o g) refl refl _

  pub store-wrong : {r : Result Machine (Maybe Reason)} {n : Reason} {a i v : ℕ} → Value before m.height 3 (Ok a) → Value before m.height 2 (Ok i)
      → Value before m.height 1 (Ok v) → Element heap m.words a i (Err n) → r ≡ Err (Some n)
      → OnHeap do_store_element x m before before heap heap r
  unfolding do_store_element
  store-wrong u v w d e =
      stops e λ A o g.
      three-is u v w (state_of m before heap o g) refl refl _ ∙ d.says (state_of m before heap o g) refl refl _

  pub stores-element : {a i j v : ℕ} {heap' : List ℤ} → Value before m.height 3 (Ok a) → Value before m.height 2 (Ok i)
      → Value before m.height 1 (Ok v) → Element heap m.words a i (Ok j) → Stored heap j v heap'
      → OnHeap do_store_element x m before before heap heap' (Ok (next m (m.line + 1) (m.height - 3)))
  unfolding do_store_element
  stores-element u v w d e =
      record {
        says = λ A o g.
            three-is u v w (state_of m before heap o g) refl refl _ ∙ d.says (state_of m before heap o g) refl refl _
            ∙ ap (λ (t : List ℤ). goes (state_of (next m (m.line + 1) (m.height - 3)) before t o g)) (sym e.is);
      }

-- PRINT

-- a number more is printed
abbrev pub shown : Machine → Machine
shown m =
    record {
      line = m.line + 1;
      height = m.height - 1;
      calls = m.calls;
      words = m.words;
      printed = m.printed + 1;
      tape = m.tape;
      marks = m.marks;
    }

module _ {x : ℕ} {m : Machine} {stack : List ℕ} {output : List ℤ} where
  pub print-none : {r : Result Machine (Maybe Reason)} {n : Reason} → Value stack m.height 1 (Err n) → r ≡ Err (Some n)
      → OnOutput do_print x m stack output output r
  unfolding do_print Machine.one
  print-none w e =
      record {
        says = λ A h g.
            w.says (state_of m stack h output g) refl refl _ ∙ sym (ap (λ (r : Result Machine (Maybe Reason)). turn_of r stack h output g) e);
        still = λ _ _. refl;
      }

  pub print-full : {v : ℕ} → Value stack m.height 1 (Ok v) → length output ≤ m.printed
      → OnOutput do_print x m stack output output (Err (Some reason.OutputFull))
  unfolding do_print Machine.one
  print-full w l =
      record {
        says = λ A h g.
            w.says (state_of m stack h output g) refl refl _
            ∙ allowed-no 53 (ltb m.printed (length output)) _ (le-ltb m.printed (length output) l);
        still = λ _ _. refl;
      }

  pub prints : {v : ℕ} {output' : List ℤ} → Value stack m.height 1 (Ok v) → m.printed < length output
      → Stored output m.printed v output' → OnOutput do_print x m stack output output' (Ok (shown m))
  unfolding do_print Machine.one
  prints w l d =
      record {
        says = λ A h g.
            w.says (state_of m stack h output g) refl refl _
            ∙ allowed-yes 53 (ltb m.printed (length output)) _ (lt-ltb m.printed (length output) l)
            ∙ ap (λ (t : List ℤ). goes (state_of (shown m) stack h t g)) (sym d.is);
        still = λ e q. absurd (cc);
      }
