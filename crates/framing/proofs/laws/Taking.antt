-- A frame does what its instruction does, wherever the code machine is not stuck.
use Prim.Native.Nat.{ℕ, zero, suc, ◌+◌, ◌-◌, ◌*◌, ◌/◌, ◌%◌, ◌^◌, ◌≤◌, ◌<◌, min}
use Rattle.std.proofs.Common.{arith, mod-eq_of_lt, sym, ap, ◌∙◌, subst, length-set, length-append, take-suc-set, drop-cons, ltb-true, ltb-false, leb-true, leb-false, eqb-true, lt-ltb, le-ltb, le-leb, eq-eqb, ne_eqb}
use Rattle.std.specs.Prelude.{Bool, true, false, not, ◌&&◌, List, [], ◌∷◌, ◌++◌, map, ◌≡◌, refl, get_or, set, take, drop, replicate, ltb, leb, eqb, ℤ, pos}
use Rattle.std.proofs.Math.Option.{Option, none, some}
use Rattle.std.proofs.Math.ListN.{length, get_elem?}
use Rattle.std.proofs.lemmas.List.{length-map, length-replicate}
use Rattle.std.proofs.lemmas.List.Edits.{sets}
use Rattle.std.proofs.lemmas.Bool.{eqb-false, lt-leb}
use Rattle.base.specs.All.{All, all_nil, all_cons}
use Rattle.base.specs.Choice.{if◌then◌otherwise◌, option}
use Rattle.base.specs.Codes.{null_reference, negative_size, index_out_of_range, register_out_of_range, registers_count, value_out_of_range, byte_values}
use Rattle.base.specs.Codes.{success, budget_spent, heap_full, calls_full, output_full}
use Rattle.base.specs.Word as Word
use Rattle.base.specs.Word.{modulus, signed, low}
use Rattle.base.specs.laws.Lists.{get-below, all-at, get_d-get, get-map}
use Rattle.base.specs.laws.WordLaws.{add-below, sub-below, mul-below, scale-below}
use Rattle.device.specs.Device.{Device, bit, registers, sample, at_step, got, after_get, after_put, period}
use Rattle.device.specs.Bits.{bit-0, bit-1}
use Rattle.device.specs.laws.ByteLaws.{HoldsBytes, got-byte}
use Rattle.parser.specs.Tree.{Element, Ty.plain, Place, Operator, Operator.and, Operator.less, Operator.plus, Operator.minus, Operator.times}
use Rattle.typesystem.specs.ClassTable.{Meaning, of_row, of_object}
use Rattle.semantics.specs.Machine.{Value, Value.number, Value.thousandths, Value.flag, Value.null, Value.array_at, Value.object_at, Cell, Cell.object, Cell.array, Cell.slot, apply, apply_fixed, operated, as_slot, read_meaning}
use Rattle.semantics.specs.Machine.{Request.charge, Request.allocate, Request.enter, Request.output, Request.receive, Request.send, Request.move, Request.fault, Request.done, Request.stuck, need, pop, initial, pop_many, as_number, as_thousandths, as_printed, as_flag, as_array, as_object, as_object_cell, as_array_cell, cell_at, array_cell, under_bound, in_bounds, is_register, is_byte, Climbed}
use Rattle.semantics.specs.Limits.{Limits, Meters, charged, called, shown, with_device, Ending, ended, went_wrong, Progress, next, stop, within, guard}
use Rattle.codegen.specs.promises.Code as Code
use Rattle.codegen.specs.promises.Code.{Instruction, mark, push, load, save, self, negate, return, halt, scale, operate, jump, unless, keep, fetch, measure, make_array_lem, make_object_lem, call, print, store_element_lem, read_register, write_register, ClassRow, Entry, climb, Open, back, at, Reply, write_at, operated_by, dispatch}
use Rattle.codegen.specs.promises.Words.{word_of_flag, word_of, cell_word}
use Rattle.base.specs.Codes.{frame_fault}
use Rattle.device.specs.Device.{device_in}
use Rattle.frames.specs.Numbers.{row_places, call_entries, values_from}
use Rattle.frames.specs.Lines.{Line, line}
use Rattle.frames.specs.Machine.{State, Around, Turn, goes, ends, steps, calling, making, showing, serving, device, bad, sure, allowed, word, value_at, one, two, three, room, leave, without, inner, heap_word, field, reference, element, makes, flag_of, operation, all_words_lem, last_values, do_mark, do_push, do_load, do_save, do_self, do_negate, do_return, do_halt, do_operate, do_jump, do_unless, do_keep, do_fetch, do_measure, do_make_array, do_print, do_store_element, do_make_object, opens, entered, call_on, do_call, do_get, do_put, do_scale, act}
use Rattle.frames.specs.Encode.{class_number, place_of, table_line_lem, place_line, operator_line, frame_of}
use Rattle.frames.proofs.laws.Turns.{Within}
use Rattle.framing.proofs.laws.Holding.{Worded, flag_small, worded-below, worded-more, CallFits, CellFits, Values, CallAt, Opens, OnStack, top-worded, drop-none, drop-one, drop-two, drop-three, pushed, more-words, saved, returned, entered-call, OnHeap, heap-word, heap-set, heap-grown}

-- a line as it is read back
abbrev pub reduced : Line → Line
reduced x = line (x.code % 256) (x.operand % 2 ^ 32)

-- WHAT IS HELD

pub record Metered (A : Around) (printed : ℕ) (output : List ℤ) (registers : List ℕ) (tape marks : ℕ) (m : Meters) : Type 0 where
  pub count : printed ≡ length m.printed
  pub shown : take (length m.printed) output ≡ m.printed
  pub device : device_in A.tape registers tape ≡ m.device
  pub hundredth : marks ≡ m.steps % 100

-- a frame state holds a state of the code machine with its meters
pub record Holds (A : Around) (ν : List ℕ → ℕ) (i : ℕ) (vs : List Value) (ds : List Open) (h : List Cell) (m : Meters) (s : State) : Type 0 where
  pub place : s.line ≡ i
  pub stack : OnStack s.height s.calls s.stack vs ds (length h)
  pub heap : OnHeap ν s.words s.heap h
  pub meters : Metered A s.printed s.output s.registers s.tape s.marks m

-- what a turn of the code machine comes to, and a turn of the frame machine. Of a state that is stuck, and of a step for which none is
-- left, which E says, nothing is said.
pub data Meets (A : Around) (ν : List ℕ → ℕ) (E : Type 0) : Progress Code.State → Turn → Type 0 where
  m-goes : {i : ℕ} {vs : List Value} {ds : List Open} {h : List Cell} {m : Meters} {s : State} → Holds A ν i vs ds h m s
      → Meets A ν E (next (at i vs ds h) m) (goes s)
  m-ends : {k p : ℕ} → Meets A ν E (stop (ended k p)) (ends k)
  m-spent : {p : ℕ} {t : Turn} → E → Meets A ν E (stop (ended budget_spent p)) t
  m-stuck : {t : Turn} → Meets A ν E (stop went_wrong) t

-- TESTS THAT HOLD

pub sure-is : (b : Bool) (k : Unit {0} → Turn) → b ≡ true → sure b k ≡ k tt
unfolding sure
sure-is true k e = refl
sure-is false k e = absurd (let z : ◌≡◌ {A = ℕ} 0 1 = cc in omega arith)

pub holds-is : (n : ℕ) (b : Bool) (k : Unit {0} → Turn) → b ≡ true → allowed n b k ≡ k tt
unfolding allowed
holds-is n true k e = refl
holds-is n false k e = absurd (let z : ◌≡◌ {A = ℕ} 0 1 = cc in omega arith)

pub fails-is : (n : ℕ) (b : Bool) (k : Unit {0} → Turn) → b ≡ false → allowed n b k ≡ ends n
unfolding allowed
fails-is n true k e = absurd (let z : ◌≡◌ {A = ℕ} 0 1 = cc in omega arith)
fails-is n false k e = refl

pub word-is : (a v : ℕ) (k : ℕ → Turn) → a ≡ v → v < modulus → word a k ≡ k v
unfolding word
word-is a v k e l = sure-is (ltb a modulus) (λ _. k a) (lt-ltb a modulus (omega (arith, e))) ∙ ap k e

pub yes-is : {B : Type 0} (b : Bool) (x y : Unit {0} → B) → b ≡ true → (if b then x otherwise y) ≡ x tt
yes-is true x y e = refl
yes-is false x y e = absurd (let z : ◌≡◌ {A = ℕ} 0 1 = cc in omega arith)

pub no-is : {B : Type 0} (b : Bool) (x y : Unit {0} → B) → b ≡ false → (if b then x otherwise y) ≡ y tt
no-is true x y e = absurd (let z : ◌≡◌ {A = ℕ} 0 1 = cc in omega arith)
no-is false x y e = refl

-- THE STACK OPERANDS ARE THERE

module _ (s : State) {ds : List Open} {n : ℕ} (few : n ≤ 16384) where
  pub one-is : {v : Value} {vs : List Value} → OnStack s.height s.calls s.stack (v ∷ vs) ds n → (k : ℕ → Turn) → one s k ≡ k (word_of v)
  unfolding one
  one-is {v} {vs} o k =
      let z : s.height - 1 ≡ length vs = omega (arith, o.height) in
      sure-is (leb 1 s.height) _ (le-leb 1 s.height (omega (arith, o.height)))
      ∙ word-is (value_at s (s.height - 1)) (word_of v) k (ap (value_at s) z ∙ o.values.0) (worded-below few v (top-worded o))

  pub two_is : {v u : Value} {vs : List Value} → OnStack s.height s.calls s.stack (v ∷ u ∷ vs) ds n → (k : ℕ → ℕ → Turn)
      → two s k ≡ k (word_of u) (word_of v)
  unfolding two
  two_is {v} {u} {vs} o k =
      let z : s.height - 1 ≡ suc (length vs) = omega (arith, o.height) in
      let y : s.height - 2 ≡ length vs = omega (arith, o.height) in
      sure-is (leb 2 s.height) _ (le-leb 2 s.height (omega (arith, o.height)))
      ∙ word-is (value_at s (s.height - 2)) (word_of u) _ (ap (value_at s) y ∙ o.values.1.0) (worded-below few u (top-worded (drop-one o)))
      ∙ word-is (value_at s (s.height - 1)) (word_of v) _ (ap (value_at s) z ∙ o.values.0) (worded-below few v (top-worded o))

  pub three-is : {v u w : Value} {vs : List Value} → OnStack s.height s.calls s.stack (v ∷ u ∷ w ∷ vs) ds n → (k : ℕ → ℕ → ℕ → Turn)
      → three s k ≡ k (word_of w) (word_of u) (word_of v)
  unfolding three
  three-is {v} {u} {w} {vs} o k =
      let z : s.height - 1 ≡ suc (suc (length vs)) = omega (arith, o.height) in
      let y : s.height - 2 ≡ suc (length vs) = omega (arith, o.height) in
      let x : s.height - 3 ≡ length vs = omega (arith, o.height) in
      sure-is (leb 3 s.height) _ (le-leb 3 s.height (omega (arith, o.height)))
      ∙ word-is (value_at s (s.height - 3)) (word_of w) _ (ap (value_at s) x ∙ o.values.1.1.0) (worded-below few w (top-worded (drop-two o)))
      ∙ word-is (value_at s (s.height - 2)) (word_of u) _ (ap (value_at s) y ∙ o.values.1.0) (worded-below few u (top-worded (drop-one o)))
      ∙ word-is (value_at s (s.height - 1)) (word_of v) _ (ap (value_at s) z ∙ o.values.0) (worded-below few v (top-worded o))

pub inner-is : (s : State) {vs : List Value} {d : Open} {ds : List Open} {n : ℕ} → OnStack s.height s.calls s.stack vs (d ∷ ds) n
    → (k : ℕ → Turn) → inner s k ≡ k (call_entries * (s.calls - 1))
unfolding inner
inner-is s o k = sure-is (leb 1 s.calls) _ (le-leb 1 s.calls (omega (arith, o.calls)))

pub room-is : (s : State) (k : Unit {0} → Turn) → values_from + s.height < length s.stack → room s k ≡ k tt
unfolding room
room-is s k h = sure-is _ k (lt-ltb _ _ h)

-- TAKING VALUES APART on the side of the code machine

pub record AtStuck (Q : Reply → Type 0) : Type 0 where
  pub at : Q stuck

module _ {Q : Reply → Type 0} (q : AtStuck Q) where
  pub need-by : {A : Type 0} (o : Option A) (k : A → Reply) → ((a : A) → o ≡ some a → Q (k a)) → Q (need o k)
  need-by none k f = q.at
  need-by (some a) k f = f a refl

  pub number_by : (v : Value) (k : ℕ → Reply) → ((n : ℕ) → v ≡ number n → Q (k n)) → Q (as_number v k)
  number_by (number n) k f = f n refl
  number_by (thousandths n) k f = q.at
  number_by (flag b) k f = q.at
  number_by null k f = q.at
  number_by (array_at a) k f = q.at
  number_by (object_at a) k f = q.at

  pub thousandths-by : (v : Value) (k : ℕ → Reply) → ((n : ℕ) → v ≡ thousandths n → Q (k n)) → Q (as_thousandths v k)
  thousandths-by (number n) k f = q.at
  thousandths-by (thousandths n) k f = f n refl
  thousandths-by (flag b) k f = q.at
  thousandths-by null k f = q.at
  thousandths-by (array_at a) k f = q.at
  thousandths-by (object_at a) k f = q.at

  pub printed-by : (v : Value) (k : ℕ → Reply) → ((n : ℕ) → word_of v ≡ n → Q (k n)) → Q (as_printed v k)
  printed-by (number n) k f = f n refl
  printed-by (thousandths n) k f = f n refl
  printed-by (flag b) k f = q.at
  printed-by null k f = q.at
  printed-by (array_at a) k f = q.at
  printed-by (object_at a) k f = q.at

  pub flag_by : (v : Value) (k : Bool → Reply) → ((b : Bool) → v ≡ flag b → Q (k b)) → Q (as_flag v k)
  flag_by (number n) k f = q.at
  flag_by (thousandths n) k f = q.at
  flag_by (flag b) k f = f b refl
  flag_by null k f = q.at
  flag_by (array_at a) k f = q.at
  flag_by (object_at a) k f = q.at

  pub array-by : (p : Place) (v : Value) (k : ℕ → Reply) → (v ≡ null → Q (fault null_reference p.start)) → ((a : ℕ) → v ≡ array_at a → Q (k a))
      → Q (as_array p v k)
  array-by p (number n) k g f = q.at
  array-by p (thousandths n) k g f = q.at
  array-by p (flag b) k g f = q.at
  array-by p null k g f = g refl
  array-by p (array_at a) k g f = f a refl
  array-by p (object_at a) k g f = q.at

  pub object-by : (p : Place) (v : Value) (k : ℕ → Reply) → (v ≡ null → Q (fault null_reference p.start)) → ((a : ℕ) → v ≡ object_at a → Q (k a))
      → Q (as_object p v k)
  object-by p (number n) k g f = q.at
  object-by p (thousandths n) k g f = q.at
  object-by p (flag b) k g f = q.at
  object-by p null k g f = g refl
  object-by p (array_at a) k g f = q.at
  object-by p (object_at a) k g f = f a refl

  pub array-cell-by : (h : List Cell) (a : ℕ) (k : Element → ℕ → Reply) → ((t : Element) (n : ℕ) → get_elem? h a ≡ some (array t n) → Q (k t n))
      → Q (array_cell h a k)
  array-cell-by h a k f = need-by (get_elem? h a) _ at-cell
    where
      at-cell : (x : Cell) → get_elem? h a ≡ some x → Q (as_array_cell x k)
      at-cell (object c) e = q.at
      at-cell (array t n) e = f t n e
      at-cell (slot v) e = q.at

  pub object-cell-by : (h : List Cell) (a : ℕ) (k : List ℕ → Reply) → ((c : List ℕ) → get_elem? h a ≡ some (object c) → Q (k c))
      → Q (need (get_elem? h a) λ x. as_object_cell x k)
  object-cell-by h a k f = need-by (get_elem? h a) _ at-cell
    where
      at-cell : (x : Cell) → get_elem? h a ≡ some x → Q (as_object_cell x k)
      at-cell (object c) e = f c e
      at-cell (array t n) e = q.at
      at-cell (slot v) e = q.at

  pub cell-by : (h : List Cell) (a i : ℕ) (k : Value → Reply) → ((v : Value) → get_elem? h (a + 1 + i) ≡ some (slot v) → Q (k v)) → Q (cell_at h a i k)
  cell-by h a i k f = need-by (get_elem? h (a + 1 + i)) _ at-cell
    where
      at-cell : (x : Cell) → get_elem? h (a + 1 + i) ≡ some x → Q (as_slot x k)
      at-cell (object c) e = q.at
      at-cell (array t n) e = q.at
      at-cell (slot v) e = f v e

  pub choice-by : (b : Bool) (x y : Unit {0} → Reply) → (b ≡ true → Q (x tt)) → (b ≡ false → Q (y tt)) → Q (if b then x otherwise y)
  choice-by true x y f g = f refl
  choice-by false x y f g = g refl
