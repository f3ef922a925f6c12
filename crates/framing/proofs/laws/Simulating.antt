-- A frame does what its instruction does, wherever the code machine is not stuck: one law for each instruction.
use Prim.Native.Nat.{ℕ, zero, suc, ◌+◌, ◌-◌, ◌*◌, ◌/◌, ◌%◌, ◌^◌, ◌≤◌, ◌<◌, min}
use native.Mathlib.Omega.{arith}
use Rattle.std.proofs.Common.{mod-eq_of_lt, ◌∙◌, length-set, drop_of_length-le, drop-cons}
use Rattle.std.specs.Prelude.{Bool, not, ◌&&◌, ◌≡◌, get_or, set, drop, ℤ, pos}
use Rattle.std.proofs.Math.Bool.{true, false}
use mathlib.Core.List.{List, [], ◌∷◌, ◌++◌, map}
use Rattle.std.proofs.Math.Option.{Option, none, some}
use Rattle.std.proofs.Math.Path.{refl, sym, ap, ap₂, subst}
use Rattle.std.proofs.Math.ListN.{length, get_elem?, take, replicate, length-append}
use Rattle.std.proofs.lemmas.List.{length-map, length-replicate}
use Rattle.std.proofs.lemmas.List.Edits.{sets}
use Rattle.std.proofs.Math.Seq.{take-suc-set}
use Rattle.std.proofs.Math.Dec.{ltb, leb, eqb}
use borrow.Author.Tests.{ltb-true, ltb-false, leb-true, leb-false, eqb-true, eqb-false, lt-ltb, le-ltb, le-leb, lt-leb, eq-eqb, ne_eqb}
use Rattle.base.specs.All.{All, all_nil, all_cons}
use Rattle.base.specs.Choice.{if◌then◌otherwise◌, option}
use Rattle.base.specs.Codes.{null_reference, negative_size, index_out_of_range, register_out_of_range, registers_count, value_out_of_range, byte_values}
use Rattle.base.specs.Codes.{success, budget_spent, heap_full, calls_full, output_full}
use Rattle.base.specs.Word as Word
use Rattle.base.specs.Word.{modulus, signed, low}
use Rattle.base.specs.laws.Lists.{get-below, all-at, get_d-get, get-map, all_replicate, all-weaken}
use Rattle.base.specs.laws.WordLaws.{add-below, sub-below, mul-below, scale-below}
use Rattle.device.specs.Device.{Device, bit, registers, sample, at_step, got, with_flags, sample_of, after_get, after_put, period}
use Rattle.device.specs.Bits.{bit-0, bit-1}
use Rattle.device.specs.laws.ByteLaws.{HoldsBytes, got-byte}
use Rattle.parser.specs.Tree.{Element, Element.int, Element.boolean, Element.fixed, Element.class, Ty, Ty.plain, Ty.array_of, Place, Operator, Operator.and, Operator.less, Operator.plus, Operator.minus, Operator.times}
use Rattle.typesystem.specs.ClassTable.{Meaning, of_row, of_object}
use Rattle.semantics.specs.Machine.{Value, Value.number, Value.thousandths, Value.flag, Value.null, Value.array_at, Value.object_at, Cell, Cell.object, Cell.array, Cell.slot, apply, apply_fixed, operated, as_slot, read_meaning}
use Rattle.semantics.specs.Machine.{Request.charge, Request.allocate, Request.enter, Request.output, Request.receive, Request.send, Request.move, Request.fault, Request.done, Request.stuck, need, pop, initial, pop_many, as_number, as_thousandths, as_printed, as_flag, as_array, as_object, as_object_cell, as_array_cell, cell_at, array_cell, under_bound, in_bounds, is_register, is_byte, Climbed}
use Rattle.semantics.specs.Limits.{Limits, Meters, charged, called, shown, with_device, Ending, ended, went_wrong, Progress, next, stop, within, guard}
use Rattle.codegen.specs.promises.Code as Code
use Rattle.codegen.specs.promises.Code.{Instruction, mark, push, load, save, self, negate, return, halt, scale, operate, jump, unless, keep, fetch, measure, make_array_lem, make_object_lem, call, print, store_element_lem, read_register, write_register, ClassRow, Entry, climb, Open, back, at, Reply, write_at, operated_by, dispatch}
use Rattle.codegen.proofs.laws.WordRuns.{initial-word}
use Rattle.codegen.specs.promises.Words.{word_of_flag, word_of, cell_word}
use Rattle.base.specs.Codes.{frame_fault}
use Rattle.device.specs.Device.{device_in}
use Rattle.frames.specs.Numbers.{row_places, call_entries, values_from}
use Rattle.frames.specs.Lines.{Line, line}
use Rattle.frames.specs.Machine.{State, Around, Turn, goes, ends, steps, calling, making, showing, serving, device, bad, sure, allowed, word, value_at, one, two, three, room, leave, without, inner, heap_word, field, reference, element, makes, flag_of, operation, all_words_lem, last_values, do_mark, do_push, do_load, do_save, do_self, do_negate, do_return, do_halt, do_operate, do_jump, do_unless, do_keep, do_fetch, do_measure, do_make_array, do_print, do_store_element, do_make_object, opens, entered, call_on, do_call, do_get, do_put, do_scale, act}
use Rattle.frames.specs.Encode.{class_number, place_of, table_line_lem, place_line, operator_line, frame_of}
use Rattle.frames.proofs.laws.Turns.{Within}
use Rattle.framing.proofs.laws.Holding.{Worded, flag_small, worded-below, worded-more, CallFits, CellFits, Values, CallAt, Opens, OnStack, top-worded, drop-none, drop-one, drop-two, drop-three, pushed, more-words, saved, returned, entered-call, OnHeap, heap-word, heap-set, heap-grown}
use Rattle.framing.proofs.laws.Taking.{reduced, Metered, Holds, Meets, m-goes, m-ends, m-spent, m-stuck, sure-is, holds-is, fails-is, word-is, yes-is, no-is, one-is, two_is, three-is, inner-is, room-is, AtStuck, need-by, number_by, thousandths-by, printed-by, flag_by, array-by, object-by, array-cell-by, object-cell-by, cell-by, choice-by}

-- THE STAGE: lines that hold the instructions and the tables of code

-- what an instruction may hold
abbrev pub ZeroCell : Cell → Type 0
ZeroCell (object c) = ⊥
ZeroCell (array t n) = ⊥
ZeroCell (slot v) = Worded 0 v × (word_of v ≡ 0)

abbrev pub Fitting : (places : ℕ) → Instruction → Type 0
Fitting n (mark p) = Unit {0}
Fitting n (push v) = Worded 0 v
Fitting n (load o) = Unit {0}
Fitting n (save o) = Unit {0}
Fitting n self = Unit {0}
Fitting n negate = Unit {0}
Fitting n return = Unit {0}
Fitting n halt = Unit {0}
Fitting n scale = Unit {0}
Fitting n (operate o) = Unit {0}
Fitting n (jump j) = j ≤ n
Fitting n (unless j) = j ≤ n
Fitting n (keep j) = j ≤ n
Fitting n (fetch p) = Unit {0}
Fitting n (measure p) = Unit {0}
Fitting n (print p) = Unit {0}
Fitting n (store_element_lem p) = Unit {0}
Fitting n (read_register p) = Unit {0}
Fitting n (write_register p) = Unit {0}
Fitting n (make_array_lem p t) = Unit {0}
Fitting n (make_object_lem p c xs) = All ZeroCell xs
Fitting n (call p m k) = k ≤ row_places

pub record Stage (P : Code.Code) (L : Limits) (A : Around) : Type 0 where
  pub lines : (i : ℕ) (x : Instruction) → get_elem? P.instructions i ≡ some x → get_elem? A.lines i ≡ some (reduced (frame_of P x))
  pub fitting : (i : ℕ) (x : Instruction) → get_elem? P.instructions i ≡ some x → Fitting 8192 x
  pub few-places : length P.instructions ≤ 8192
  pub few-classes : (c : List ℕ) → class_number P.rows c < 65536
  pub table-small : (m : List ℕ) → table_line_lem P m < 2 ^ 24
  pub table_at : (c m : List ℕ) (e : Climbed Entry) → climb (length P.rows) P.rows c m ≡ some e
      → get_elem? A.lines (table_line_lem P m + class_number P.rows c) ≡ some (line 22 e.found.address)
  pub shaped : (c m : List ℕ) (e : Climbed Entry) → climb (length P.rows) P.rows c m ≡ some e
      → (e.found.parameters + length e.found.locals ≤ row_places) × All (Worded 0) e.found.locals
      × All (λ (v : Value). word_of v ≡ 0) e.found.locals
  pub same-calls : A.calls ≡ L.calls
  pub few-calls : L.calls ≤ 64
  pub small-heap : L.heap ≤ 16384

-- what the strips are large enough for
pub record Sized (L : Limits) (A : Around) (s : State) : Type 0 where
  pub within : Within A s
  pub long : 140000 ≤ length s.stack
  pub heap : length s.heap ≡ L.heap
  pub output : length s.output ≡ L.printed

flag_word : (b : Bool) → word_of_flag b ≡ flag_of b
flag_word true = refl
flag_word false = refl

word_line : (j : ℕ) → j ≤ 100000 → j % 2 ^ 32 ≡ j
word_line j l = omega arith

-- what begins as 0, 0.000, false or null is worded
pub initial-worded : (t : Ty) → Worded 0 (initial t)
initial-worded (plain int) = omega arith
initial-worded (plain boolean) = tt
initial-worded (plain fixed) = omega arith
initial-worded (plain (class c)) = tt
initial-worded (array_of t) = tt

modular : (s k : ℕ) → k ≡ s % 100 → (k + 1 ≡ 100 → ⊥) → (s + 1) % 100 ≡ k + 1
modular s k e n = by (eqb (k + 1) 100) refl
  where
    by : (b : Bool) → eqb (k + 1) 100 ≡ b → (s + 1) % 100 ≡ k + 1
    by true q = absurd (n (eqb-true (k + 1) 100 q))
    by false q = let z = eqb-false (k + 1) 100 q in less (leb (k + 1) 99) refl
      where
        less : (c : Bool) → leb (k + 1) 99 ≡ c → (s + 1) % 100 ≡ k + 1
        less true y = let l = leb-true (k + 1) 99 y in omega arith
        less false y = let l = leb-false (k + 1) 99 y in absurd (n (omega arith))

-- THE DEVICE, read back from its registers
pub read_back : (d : Device) (t : List ℕ) (n : ℕ) → d.tape ≡ drop n t → device_in t (registers d) n ≡ d
read_back d t n e =
    ap (λ (a : Bool). of a (bit 1 (got 0 d)) (drop n t)) (bit-0 d) ∙ ap (λ (l : Bool). of d.arrived l (drop n t)) (bit-1 d)
    ∙ ap (λ (r : List ℕ). of d.arrived d.lost r) (sym e)
  where
    of : Bool → Bool → List ℕ → Device
    of a l r = record { arrived = a; lost = l; mask = d.mask; reading = d.reading; others = d.others; tape = r }

get-tape : (n : ℕ) (d : Device) → (after_get n d).tape ≡ d.tape
get-tape n d = by (eqb n 2)
  where
    by : (b : Bool) → (if b then (λ _. with_flags false d.lost d) otherwise λ _. d).tape ≡ d.tape
    by true = refl
    by false = refl

put-tape : (n v : ℕ) (d : Device) → (after_put n v d).tape ≡ d.tape
put-tape zero v d = refl
put-tape (suc zero) v d = refl
put-tape (suc (suc zero)) v d = refl
put-tape (suc (suc (suc n))) v d = refl

sample-tape : (t : List ℕ) (n : ℕ) (d : Device) → d.tape ≡ drop n t
    → (sample d).tape ≡ drop (if ltb n (length t) then (λ _. n + 1) otherwise λ _. n) t
sample-tape t n d e = by (ltb n (length t)) refl
  where
    by : (b : Bool) → ltb n (length t) ≡ b → (sample_of d.tape d).tape ≡ drop (if b then (λ _. n + 1) otherwise λ _. n) t
    by true q =
        let l : n < length t = ltb-true n (length t) q in
        let z : n + 1 ≡ suc n = omega arith in
        ap (λ (r : List ℕ). (sample_of r d).tape) (e ∙ drop-cons t n 0 l) ∙ ap (λ (k : ℕ). drop k t) (sym z)
    by false q =
        let l : length t ≤ n = ltb-false n (length t) q in
        let z : drop n t ≡ [] = drop_of_length-le t l in
        ap (λ (r : List ℕ). (sample_of r d).tape) (e ∙ z) ∙ e

module _ {P : Code.Code} {L : Limits} {A : Around} (S : Stage P L A) (s : State) (Z : Sized L A s) where
  abbrev pub ν : List ℕ → ℕ
  ν c = class_number P.rows c

  abbrev pub Told : Meters → Turn → Reply → Type 0
  Told m t r = Meets A ν (L.budget ≤ m.steps) (guard L m r) t

  pub at-stuck : (m : Meters) (t : Turn) → AtStuck (Told m t)
  unfolding guard
  at-stuck m t = record { at = m-stuck }

  -- the words made
  pub few_words : {h : List Cell} → OnHeap ν s.words s.heap h → length h ≤ 16384
  few_words o = omega (arith, o.words, Z.within.words, Z.heap, S.small-heap)

  pub few-open : s.calls ≤ 64
  few-open = omega (arith, Z.within.calls, S.same-calls, S.few-calls)

  pub tell : {E : Type 0} {r : Progress Code.State} {t u : Turn} → t ≡ u → Meets A ν E r u → Meets A ν E r t
  tell {E} {r = r} e h = subst (Meets A ν E r) (sym e) h

  operated-by : (m : Meters) (t : Turn) (o : Operator) (x y : Value) (k : Value → Reply)
      → ((a b : ℕ) → x ≡ number a → y ≡ number b → Told m t (need (apply o a b) k))
      → ((a b : ℕ) → x ≡ thousandths a → y ≡ thousandths b → Told m t (need (apply_fixed o a b) k)) → Told m t (operated o x y k)
  unfolding guard
  operated-by m t o (number a) y k f g = number_by (at-stuck m t) y _ (λ b e. f a b refl e)
  operated-by m t o (thousandths a) y k f g = thousandths-by (at-stuck m t) y _ (λ b e. g a b refl e)
  operated-by m t o (flag a) y k f g = m-stuck
  operated-by m t o null y k f g = m-stuck
  operated-by m t o (array_at a) y k f g = m-stuck
  operated-by m t o (object_at a) y k f g = m-stuck

  module _ {i : ℕ} {ds : List Open} {h : List Cell} {m : Meters} where
    -- one value left behind on the stack, in the place of so many; the next line is due
    pub left-none : {vs : List Value} → Holds A ν i vs ds h m s → length vs ≤ 66560 → (v : Value) (w : ℕ) → Worded (length h) v → word_of v ≡ w
        → Holds A ν (suc i) (v ∷ vs) ds h m (leave s 0 w)
    left-none o l v w t e =
        record {
          place = omega (arith, o.place);
          stack = pushed v w (drop-none o.stack) t e (omega (arith, Z.long, o.stack.height)) few-open;
          heap = o.heap;
          meters = o.meters;
        }

    left_one : {u : Value} {vs : List Value} → Holds A ν i (u ∷ vs) ds h m s → (v : Value) (w : ℕ) → Worded (length h) v → word_of v ≡ w
        → Holds A ν (suc i) (v ∷ vs) ds h m (leave s 1 w)
    left_one o v w t e =
        record {
          place = omega (arith, o.place);
          stack = pushed v w (drop-one o.stack) t e (omega (arith, Z.within.height, o.stack.height)) few-open;
          heap = o.heap;
          meters = o.meters;
        }

    left-two : {u x : Value} {vs : List Value} → Holds A ν i (u ∷ x ∷ vs) ds h m s → (v : Value) (w : ℕ) → Worded (length h) v → word_of v ≡ w
        → Holds A ν (suc i) (v ∷ vs) ds h m (leave s 2 w)
    left-two o v w t e =
        record {
          place = omega (arith, o.place);
          stack = pushed v w (drop-two o.stack) t e (omega (arith, Z.within.height, o.stack.height)) few-open;
          heap = o.heap;
          meters = o.meters;
        }

    gone_one : {u : Value} {vs : List Value} → Holds A ν i (u ∷ vs) ds h m s → Holds A ν (suc i) vs ds h m (without s 1)
    gone_one o = record { place = omega (arith, o.place); stack = drop-one o.stack; heap = o.heap; meters = o.meters }

    pub one-goes : {u : Value} {vs : List Value} → Holds A ν i (u ∷ vs) ds h m s → (k : ℕ → Turn) → one s k ≡ k (word_of u)
    one-goes o k = one-is s (few_words o.heap) o.stack k

    pub two-goes : {u v : Value} {vs : List Value} → Holds A ν i (u ∷ v ∷ vs) ds h m s → (k : ℕ → ℕ → Turn) → two s k ≡ k (word_of v) (word_of u)
    two-goes o k = two_is s (few_words o.heap) o.stack k

    three-goes : {u v w : Value} {vs : List Value} → Holds A ν i (u ∷ v ∷ w ∷ vs) ds h m s → (k : ℕ → ℕ → ℕ → Turn) → three s k ≡ k (word_of w) (word_of v) (word_of u)
    three-goes o k = three-is s (few_words o.heap) o.stack k

  module _ (i : ℕ) (ds : List Open) (h : List Cell) (m : Meters) where
    -- 01 push
    pub push-meets : {vs : List Value} (v : Value) → Holds A ν i vs ds h m s → length vs ≤ 66560 → Worded 0 v
        → Told m (act A (line 1 (word_of v % 2 ^ 32)) s) (Code.act P.rows (push v) i vs ds h)
    unfolding act do_push guard Code.act
    push-meets v o l w =
        let z : 0 ≤ 16384 = omega arith in
        let b = worded-below z v w in
        tell (room-is s _ (omega (arith, Z.long, o.stack.height)))
        (m-goes (left-none o l v (word_of v % 2 ^ 32) (worded-more (omega arith) v w) (sym (mod-eq_of_lt b))))

    -- 05 negate
    pub negate-meets : (vs : List Value) → Holds A ν i vs ds h m s → Told m (act A (line 5 0) s) (Code.act P.rows negate i vs ds h)
    unfolding act do_negate guard Code.act
    negate-meets [] o = m-stuck
    negate-meets (x ∷ vs) o =
        flag_by (at-stuck m _) x _ (λ b e.
        let w : word_of x ≡ word_of_flag b = ap word_of e in
        let small : word_of x ≤ 1 = omega (arith, w, flag_small b) in
        tell (sure-is _ _ refl ∙ one-goes o _ ∙ sure-is _ _ (le-leb (word_of x) 1 small))
        (m-goes (left_one o (flag (not b)) (1 - word_of x) tt (flip b ∙ ap (λ (y : ℕ). 1 - y) (sym w)))))
      where
        flip : (b : Bool) → word_of_flag (not b) ≡ 1 - word_of_flag b
        flip true = refl
        flip false = refl

    -- 07 halt
    pub halt-meets : (vs : List Value) → Told m (act A (line 7 0) s) (Code.act P.rows halt i vs ds h)
    unfolding act do_halt guard Code.act
    halt-meets vs = tell (sure-is _ _ refl) m-ends

    -- 08 operate
    pub operate-meets : (o : Operator) (vs : List Value) → Holds A ν i vs ds h m s
        → Told m (act A (line 8 (operator_line o)) s) (Code.act P.rows (operate o) i vs ds h)
    unfolding act do_operate guard Code.act
    operate-meets o [] H = m-stuck
    operate-meets o (y ∷ []) H = m-stuck
    operate-meets and (y ∷ x ∷ vs) H = operated-by m _ and x y _ (λ a b _ _. m-stuck) (λ a b _ _. m-stuck)
    operate-meets less (y ∷ x ∷ vs) H =
        let e = sure-is _ _ refl ∙ two-goes H _ in
        operated-by m _ less x y _
        (λ a b p q. tell e (m-goes (left-two H (flag (Word.less a b)) _ tt (flag_word (Word.less a b) ∙ ap₂ (λ (c d : ℕ). flag_of (Word.less c d)) (sym (ap word_of p)) (sym (ap word_of q))))))
        (λ a b p q. tell e (m-goes (left-two H (flag (Word.less a b)) _ tt (flag_word (Word.less a b) ∙ ap₂ (λ (c d : ℕ). flag_of (Word.less c d)) (sym (ap word_of p)) (sym (ap word_of q))))))
    operate-meets plus (y ∷ x ∷ vs) H =
        let e = sure-is _ _ refl ∙ two-goes H _ in
        operated-by m _ plus x y _
        (λ a b p q. tell e (m-goes (left-two H (number (Word.add a b)) _ (add-below a b) (ap₂ Word.add (sym (ap word_of p)) (sym (ap word_of q))))))
        (λ a b p q. tell e (m-goes (left-two H (thousandths (Word.add a b)) _ (add-below a b) (ap₂ Word.add (sym (ap word_of p)) (sym (ap word_of q))))))
    operate-meets minus (y ∷ x ∷ vs) H =
        let e = sure-is _ _ refl ∙ two-goes H _ in
        operated-by m _ minus x y _
        (λ a b p q. tell e (m-goes (left-two H (number (Word.sub a b)) _ (sub-below a b) (ap₂ Word.sub (sym (ap word_of p)) (sym (ap word_of q))))))
        (λ a b p q. tell e (m-goes (left-two H (thousandths (Word.sub a b)) _ (sub-below a b) (ap₂ Word.sub (sym (ap word_of p)) (sym (ap word_of q))))))
    operate-meets times (y ∷ x ∷ vs) H =
        let e = sure-is _ _ refl ∙ two-goes H _ in
        number_by (at-stuck m _) x _ (λ a p. number_by (at-stuck m _) y _ (λ b q.
        tell e (m-goes (left-two H (number (Word.mul a b)) _ (mul-below a b) (ap₂ Word.mul (sym (ap word_of p)) (sym (ap word_of q)))))))

    -- 15 scale
    pub scale-meets : (vs : List Value) → Holds A ν i vs ds h m s → Told m (act A (line 21 0) s) (Code.act P.rows scale i vs ds h)
    unfolding act do_scale guard Code.act
    scale-meets [] H = m-stuck
    scale-meets (y ∷ []) H = m-stuck
    scale-meets (y ∷ x ∷ vs) H =
        thousandths-by (at-stuck m _) x _ (λ a p. thousandths-by (at-stuck m _) y _ (λ b q.
        tell (sure-is _ _ refl ∙ two-goes H _)
        (m-goes (left-two H (thousandths (Word.scale a b)) _ (scale-below a b) (ap₂ Word.scale (sym (ap word_of p)) (sym (ap word_of q)))))))

    -- 09 jump
    pub jump-meets : (j : ℕ) (vs : List Value) → Holds A ν i vs ds h m s → j ≤ 8192
        → Told m (act A (line 9 (j % 2 ^ 32)) s) (Code.act P.rows (jump j) i vs ds h)
    unfolding act do_jump guard Code.act
    jump-meets j vs H l = m-goes (record { place = word_line j (omega arith); stack = H.stack; heap = H.heap; meters = H.meters })

    -- 0a unless
    pub unless-meets : (j : ℕ) (vs : List Value) → Holds A ν i vs ds h m s → j ≤ 8192
        → Told m (act A (line 10 (j % 2 ^ 32)) s) (Code.act P.rows (unless j) i vs ds h)
    unfolding act do_unless guard Code.act
    unless-meets j [] H l = m-stuck
    unless-meets j (x ∷ vs) H l =
        flag_by (at-stuck m _) x _ (λ b e. tell (one-goes H _ ∙ ap (λ (w : ℕ). sure (leb w 1) λ _. if eqb w 0 then (λ _. goes (steps s (j % 2 ^ 32) (s.height - 1) s.stack)) otherwise λ _. goes (without s 1)) (ap word_of e)) (on b))
      where
        on : (b : Bool) → Meets A ν (L.budget ≤ m.steps) (guard L m (if b then (λ _. move (at (suc i) vs ds h)) otherwise λ _. move (at j vs ds h)))
            (sure (leb (word_of_flag b) 1) λ _. if eqb (word_of_flag b) 0 then (λ _. goes (steps s (j % 2 ^ 32) (s.height - 1) s.stack)) otherwise λ _. goes (without s 1))
        on true = tell (sure-is _ _ refl) (m-goes (gone_one H))
        on false = tell (sure-is _ _ refl) (m-goes (record { place = word_line j (omega arith); stack = drop-one H.stack; heap = H.heap; meters = H.meters }))

    -- 0b keep
    pub keep_meets : (j : ℕ) (vs : List Value) → Holds A ν i vs ds h m s → j ≤ 8192
        → Told m (act A (line 11 (j % 2 ^ 32)) s) (Code.act P.rows (keep j) i vs ds h)
    unfolding act do_keep guard Code.act
    keep_meets j [] H l = m-stuck
    keep_meets j (x ∷ vs) H l =
        flag_by (at-stuck m _) x _ (λ b e. tell (one-goes H _ ∙ ap (λ (w : ℕ). sure (leb w 1) λ _. if eqb w 0 then (λ _. goes (steps s (j % 2 ^ 32) s.height s.stack)) otherwise λ _. goes (without s 1)) (ap word_of e)) (on b e))
      where
        on : (b : Bool) → x ≡ flag b → Meets A ν (L.budget ≤ m.steps) (guard L m (if b then (λ _. move (at (suc i) vs ds h)) otherwise λ _. move (at j (flag false ∷ vs) ds h)))
            (sure (leb (word_of_flag b) 1) λ _. if eqb (word_of_flag b) 0 then (λ _. goes (steps s (j % 2 ^ 32) s.height s.stack)) otherwise λ _. goes (without s 1))
        on true e = tell (sure-is _ _ refl) (m-goes (gone_one H))
        on false e =
            tell (sure-is _ _ refl)
            (m-goes (record { place = word_line j (omega arith); stack = subst (λ (v : Value). OnStack s.height s.calls s.stack (v ∷ vs) ds (length h)) e H.stack; heap = H.heap; meters = H.meters }))

    -- 0f print
    pub print-meets : (p : Place) (x : ℕ) (vs : List Value) → Holds A ν i vs ds h m s → Told m (act A (line 15 x) s) (Code.act P.rows (print p) i vs ds h)
    unfolding act do_print guard Code.act
    print-meets p x [] H = m-stuck
    print-meets p x (v ∷ vs) H = printed-by (at-stuck m _) v _ (λ n e. tell (one-goes H _) (on n e (ltb (length m.printed) L.printed) refl))
      where
        on : (n : ℕ) → word_of v ≡ n → (b : Bool) → ltb (length m.printed) L.printed ≡ b
            → Meets A ν (L.budget ≤ m.steps) (within b output_full p.start λ _. next (at (suc i) vs ds h) (shown m (signed n)))
            (allowed output_full (ltb s.printed (length s.output)) λ _. goes (showing s (word_of v)))
        on n e true q =
            let l : length m.printed < L.printed = ltb-true _ _ q in
            let k : s.printed < length s.output = omega (arith, H.meters.count, Z.output, l) in
            let c = H.meters.count in
            tell (holds-is _ _ _ (lt-ltb _ _ k))
            (m-goes (record {
              place = omega (arith, H.place);
              stack = drop-one H.stack;
              heap = H.heap;
              meters = record {
                count = omega (arith, c, length-append m.printed (signed n ∷ []));
                shown =
                    let z : length (m.printed ++ signed n ∷ []) ≡ suc s.printed = omega (arith, c, length-append m.printed (signed n ∷ [])) in
                    ap (λ (j : ℕ). take j (set s.output s.printed (signed (word_of v)))) z
                    ∙ take-suc-set s.output s.printed (signed (word_of v)) k
                    ∙ ap₂ (λ (j : ℕ) (w : ℕ). take j s.output ++ signed w ∷ []) c e
                    ∙ ap (λ (l : List ℤ). l ++ signed n ∷ []) H.meters.shown;
                device = H.meters.device;
                hundredth = H.meters.hundredth;
              };
            }))
        on n e false q =
            let l : L.printed ≤ length m.printed = ltb-false _ _ q in
            tell (fails-is _ _ _ (le-ltb s.printed (length s.output) (omega (arith, H.meters.count, Z.output, l)))) m-ends

    -- REFERENCES

    -- the place of an array or an object, on the heap strip
    pub reference-goes : {x : Cell} (H : OnHeap ν s.words s.heap h) (r a : ℕ) (k : Unit {0} → Turn) → r ≡ suc a → get_elem? h a ≡ some x
        → reference s r k ≡ k tt
    unfolding reference
    reference-goes H r a k e g =
        let b = get-below h a g in
        no-is (eqb r 0) _ _ (ne_eqb r 0 (λ q. omega (arith, q, e))) ∙ sure-is _ _ (le-leb r s.words (omega (arith, e, b, H.words)))

    pub null-goes : (r : ℕ) (k : Unit {0} → Turn) → r ≡ 0 → reference s r k ≡ ends null_reference
    unfolding reference
    null-goes r k e = yes-is (eqb r 0) _ _ (eq-eqb r 0 e)

    pub header_is : {x : Cell} (H : OnHeap ν s.words s.heap h) (r a : ℕ) → r ≡ suc a → get_elem? h a ≡ some x → heap_word s (r - 1) ≡ cell_word ν x
    header_is H r a e g =
        let z : r - 1 ≡ a = omega (arith, e) in
        ap (heap_word s) z ∙ heap-word ν S.few-classes H (few_words H) a g

    pub word_at : {x : Cell} (H : OnHeap ν s.words s.heap h) (j k : ℕ) → j ≡ k → get_elem? h k ≡ some x → heap_word s j ≡ cell_word ν x
    word_at H j k e g = ap (heap_word s) e ∙ heap-word ν S.few-classes H (few_words H) k g

    -- what is in the heap is worded
    pub cell-worded : (H : OnHeap ν s.words s.heap h) (j : ℕ) {v : Value} → get_elem? h j ≡ some (slot v) → Worded (length h) v
    cell-worded H j e = all-at j H.fits e

    -- an element: 41 or its place
    element-goes : {t : Element} {n : ℕ} {v : Value} (H : OnHeap ν s.words s.heap h) (r a y i : ℕ) (k : ℕ → Turn) → r ≡ suc a → y ≡ i
        → get_elem? h a ≡ some (array t n) → i < n → get_elem? h (a + 1 + i) ≡ some (slot v) → element s r y k ≡ k (r + y)
    unfolding element
    element-goes {n = n} H r a y i k e f g l c =
        let b = get-below h (a + 1 + i) c in
        reference-goes H r a _ e g
        ∙ holds-is _ _ _ (lt-ltb y (heap_word s (r - 1)) (omega (arith, header_is H r a e g, f, l)))
        ∙ sure-is _ _ (lt-ltb (r + y) s.words (omega (arith, e, f, b, H.words)))

    element-fails : {t : Element} {n : ℕ} (H : OnHeap ν s.words s.heap h) (r a y i : ℕ) (k : ℕ → Turn) → r ≡ suc a → y ≡ i
        → get_elem? h a ≡ some (array t n) → n ≤ i → element s r y k ≡ ends index_out_of_range
    unfolding element
    element-fails {n = n} H r a y i k e f g l =
        reference-goes H r a _ e g ∙ fails-is _ _ _ (le-ltb y (heap_word s (r - 1)) (omega (arith, header_is H r a e g, f, l)))

    element-null : (r y : ℕ) (k : ℕ → Turn) → r ≡ 0 → element s r y k ≡ ends null_reference
    unfolding element
    element-null r y k e = null-goes r _ e

    -- 0c fetch
    pub fetch-meets : (p : Place) (z : ℕ) (vs : List Value) → Holds A ν i vs ds h m s → Told m (act A (line 12 z) s) (Code.act P.rows (fetch p) i vs ds h)
    unfolding act do_fetch guard Code.act
    fetch-meets p z [] H = m-stuck
    fetch-meets p z (y ∷ []) H = m-stuck
    fetch-meets p z (y ∷ x ∷ vs) H =
        number_by (at-stuck m _) y _ (λ k e.
        array-by (at-stuck m _) p x _ (λ n. tell (two-goes H _ ∙ element-null (word_of x) (word_of y) _ (ap word_of n)) m-ends) (λ a f.
        array-cell-by (at-stuck m _) h a _ (λ t n g.
        choice-by (at-stuck m _) (ltb k n) _ _
        (λ b. let l : k < n = ltb-true k n b in
        cell-by (at-stuck m _) h a k _ (λ v c.
        tell (two-goes H _ ∙ element-goes H.heap (word_of x) a (word_of y) k _ (ap word_of f) (ap word_of e) g l c)
        (m-goes (left-two H v _ (cell-worded H.heap (a + 1 + k) c)
        (sym (word_at H.heap (word_of x + word_of y) (a + 1 + k) (omega (arith, ap word_of f, ap word_of e)) c))))))
        (λ b. tell (two-goes H _ ∙ element-fails H.heap (word_of x) a (word_of y) k _ (ap word_of f) (ap word_of e) g (ltb-false k n b)) m-ends))))

    -- 0d measure
    pub measure-meets : (p : Place) (z : ℕ) (vs : List Value) → Holds A ν i vs ds h m s → Told m (act A (line 13 z) s) (Code.act P.rows (measure p) i vs ds h)
    unfolding act do_measure guard Code.act
    measure-meets p z [] H = m-stuck
    measure-meets p z (x ∷ vs) H =
        array-by (at-stuck m _) p x _ (λ n. tell (one-goes H _ ∙ null-goes (word_of x) _ (ap word_of n)) m-ends) (λ a f.
        array-cell-by (at-stuck m _) h a _ (λ t n g.
        let w : n < 2 ^ 31 = all-at a H.heap.fits g in
        tell (one-goes H _ ∙ reference-goes H.heap (word_of x) a _ (ap word_of f) g)
        (m-goes (left_one H (number n) _ (omega arith) (sym (header_is H.heap (word_of x) a (ap word_of f) g))))))

    -- 10 store_element_lem
    pub store-element-meets : (p : Place) (z : ℕ) (vs : List Value) → Holds A ν i vs ds h m s
        → Told m (act A (line 16 z) s) (Code.act P.rows (store_element_lem p) i vs ds h)
    unfolding act do_store_element guard Code.act
    store-element-meets p z [] H = m-stuck
    store-element-meets p z (v ∷ []) H = m-stuck
    store-element-meets p z (v ∷ y ∷ []) H = m-stuck
    store-element-meets p z (v ∷ y ∷ x ∷ vs) H =
        number_by (at-stuck m _) y _ (λ k e.
        array-by (at-stuck m _) p x _ (λ n. tell (three-goes H _ ∙ element-null (word_of x) (word_of y) _ (ap word_of n)) m-ends) (λ a f.
        array-cell-by (at-stuck m _) h a _ (λ t n g.
        choice-by (at-stuck m _) (ltb k n) _ _
        (λ b. let l : k < n = ltb-true k n b in
        cell-by (at-stuck m _) h a k _ (λ u c.
        tell (three-goes H _ ∙ element-goes H.heap (word_of x) a (word_of y) k _ (ap word_of f) (ap word_of e) g l c)
        (m-goes (stored k a (get-below h (a + 1 + k) c) (omega (arith, ap word_of f, ap word_of e))))))
        (λ b. tell (three-goes H _ ∙ element-fails H.heap (word_of x) a (word_of y) k _ (ap word_of f) (ap word_of e) g (ltb-false k n b)) m-ends))))
      where
        stored : (k a : ℕ) → a + 1 + k < length h → word_of x + word_of y ≡ a + 1 + k
            → Holds A ν (suc i) vs ds (set h (a + 1 + k) (slot v)) m
            (making s (s.line + 1) (s.height - 3) s.stack s.words (set s.heap (word_of x + word_of y) (signed (word_of v))))
        stored k a b q =
            record {
              place = omega (arith, H.place);
              stack = subst (OnStack (s.height - 3) s.calls s.stack vs ds) (sym (length-set h (a + 1 + k) (slot v))) (drop-three H.stack);
              heap = subst (λ (j : ℕ). OnHeap ν s.words (set s.heap j (signed (word_of v))) (set h (a + 1 + k) (slot v))) (sym q)
                  (heap-set ν H.heap (a + 1 + k) (slot v) b (omega (arith, H.heap.words, Z.within.words)) (top-worded H.stack));
              meters = H.meters;
            }

    -- NEW OBJECTS AND ARRAYS

    grown : (x : Cell) (a n : ℕ) (xs : List Cell) → OnHeap ν s.words s.heap h → length xs ≡ n → cell_word ν x ≡ a
        → All (λ (y : Cell). cell_word ν y ≡ 0) xs → s.words + 1 + n ≤ length s.heap → All (CellFits (length h + 1 + n)) (x ∷ xs)
        → OnHeap ν (s.words + 1 + n) (sets s.heap s.words (signed a ∷ replicate n (pos 0))) (h ++ x ∷ xs)
    grown x a n xs o e f z l g =
        subst (λ (n : ℕ). OnHeap ν (s.words + 1 + n) (sets s.heap s.words (signed a ∷ replicate n (pos 0))) (h ++ x ∷ xs)) e
        (heap-grown ν o x a xs f z (omega (arith, e)) (subst (λ (n : ℕ). All (CellFits (length h + 1 + n)) (x ∷ xs)) (sym e) g))

    made : (t : ℕ) (x : Cell) (a n : ℕ) (xs : List Cell) (vs : List Value) (v : Value) → s.line ≡ i → OnStack (s.height - t) s.calls s.stack vs ds (length h)
        → values_from + (s.height - t) < length s.stack
        → OnHeap ν s.words s.heap h → Metered A s.printed s.output s.registers s.tape s.marks m → length xs ≡ n → cell_word ν x ≡ a
        → All (λ (y : Cell). cell_word ν y ≡ 0) xs → s.words + 1 + n ≤ length s.heap → All (CellFits (length h + 1 + n)) (x ∷ xs)
        → Worded (length h + 1) v → word_of v ≡ suc (length h)
        → Holds A ν (suc i) (v ∷ vs) ds (h ++ x ∷ xs) m
        (making s (s.line + 1) (s.height - t + 1) (set s.stack (values_from + (s.height - t)) (s.words + 1))
        (s.words + 1 + n) (sets s.heap s.words (signed a ∷ replicate n (pos 0))))
    made t x a n xs vs v q o r k M e f z l g w y =
        let c : length (h ++ x ∷ xs) ≡ length h + 1 + n = omega (arith, length-append h (x ∷ xs), e) in
        record {
          place = omega (arith, q);
          stack = pushed v (s.words + 1) (more-words (omega (arith, c)) o) (worded-more (omega (arith, c)) v w) (omega (arith, y, k.words)) r few-open;
          heap = grown x a n xs k e f z l g;
          meters = M;
        }

    -- 0e make_array_lem
    pub make-array-meets : (p : Place) (t : Element) (z : ℕ) (vs : List Value) → Holds A ν i vs ds h m s
        → Told m (act A (line 14 z) s) (Code.act P.rows (make_array_lem p t) i vs ds h)
    unfolding act do_make_array makes guard Code.act
    make-array-meets p t z [] H = m-stuck
    make-array-meets p t z (x ∷ vs) H =
        number_by (at-stuck m _) x _ (λ n e.
        choice-by (at-stuck m _) (ltb n (2 ^ 31)) _ _
        (λ b. tell (one-goes H _ ∙ holds-is _ _ _ (ap (λ (w : ℕ). ltb w (2 ^ 31)) (ap word_of e) ∙ b)) (on n (ap word_of e) (ltb-true n (2 ^ 31) b) (leb (length h + 1 + n) L.heap) refl))
        (λ b. tell (one-goes H _ ∙ fails-is _ _ _ (ap (λ (w : ℕ). ltb w (2 ^ 31)) (ap word_of e) ∙ b)) m-ends))
      where
        on : (n : ℕ) → word_of x ≡ n → n < 2 ^ 31 → (b : Bool) → leb (length h + 1 + n) L.heap ≡ b
            → Meets A ν (L.budget ≤ m.steps) (within b heap_full p.start λ _. next (at (suc i) (array_at (length h) ∷ vs) ds (h ++ array t n ∷ replicate n (slot (initial (plain t))))) m)
            (allowed heap_full (leb (s.words + 1 + word_of x) (length s.heap)) λ _.
            goes (making s (s.line + 1) (s.height - 1 + 1) (set s.stack (values_from + (s.height - 1)) (s.words + 1))
            (s.words + 1 + word_of x) (sets s.heap s.words (signed (word_of x) ∷ replicate (word_of x) (pos 0)))))
        on n e u true q =
            let l : length h + 1 + n ≤ L.heap = leb-true _ _ q in
            let l' : s.words + 1 + word_of x ≤ length s.heap = omega (arith, l, e, H.heap.words, Z.heap) in
            let f = all_replicate n (slot (initial (plain t))) (worded-more {n = 0} {m = length h + 1 + word_of x} (omega arith) (initial (plain t)) (initial-worded (plain t))) in
            tell (holds-is _ _ _ (le-leb _ _ l'))
            (m-goes (made 1 (array t n) (word_of x) (word_of x) (replicate n (slot (initial (plain t)))) vs (array_at (length h)) H.place (drop-one H.stack)
            (omega (arith, Z.within.height, H.stack.height)) H.heap H.meters (length-replicate n (slot (initial (plain t))) ∙ sym e) (sym e)
            (all_replicate n (slot (initial (plain t))) (initial-word (plain t))) l' (all_cons {x = array t n} u f) (omega arith) refl))
        on n e u false q =
            let l : L.heap < length h + 1 + n = leb-false _ _ q in
            tell (fails-is _ _ _ (lt-leb (s.words + 1 + word_of x) (length s.heap) (omega (arith, l, e, H.heap.words, Z.heap)))) m-ends

    -- 11 make_object_lem
    pub make-object-meets : (p : Place) (c : List ℕ) (xs : List Cell) (vs : List Value) → Holds A ν i vs ds h m s → length vs ≤ 66560 → All ZeroCell xs
        → Told m (act A (line 17 ((65536 * ν c + min (length xs) 65535) % 2 ^ 32)) s) (Code.act P.rows (make_object_lem p c xs) i vs ds h)
    unfolding act do_make_object makes guard Code.act
    make-object-meets p c xs vs H l zs =
        tell (room-is s _ (omega (arith, Z.long, H.stack.height)) ∙ ap₂ (λ (a n : ℕ). makes s 0 a n) hi lo) (on (leb (length h + 1 + length xs) L.heap) refl)
      where
        fields : ℕ
        fields = min (length xs) 65535

        operand : ℕ
        operand = (65536 * ν c + min (length xs) 65535) % 2 ^ 32

        hi : operand / 65536 ≡ ν c
        hi = omega (arith, S.few-classes c)

        lo : operand % 65536 ≡ fields
        lo = omega (arith, S.few-classes c)

        zero_word : (y : Cell) → ZeroCell y → cell_word ν y ≡ 0
        zero_word (object c) z = absurd z
        zero_word (array t n) z = absurd z
        zero_word (slot v) z = z.1

        zero-fits : (n : ℕ) (y : Cell) → ZeroCell y → CellFits n y
        zero-fits n (object c) z = absurd z
        zero-fits n (array t k) z = absurd z
        zero-fits n (slot v) z = worded-more (omega arith) v z.0

        on : (b : Bool) → leb (length h + 1 + length xs) L.heap ≡ b
            → Meets A ν (L.budget ≤ m.steps) (within b heap_full p.start λ _. next (at (suc i) (object_at (length h) ∷ vs) ds (h ++ object c ∷ xs)) m) (makes s 0 (ν c) fields)
        on true q =
            let k : length h + 1 + length xs ≤ L.heap = leb-true _ _ q in
            let e : length xs ≡ fields = omega (arith, k, S.small-heap) in
            let l' : s.words + 1 + fields ≤ length s.heap = omega (arith, k, e, H.heap.words, Z.heap) in
            tell (holds-is _ _ _ (le-leb _ _ l'))
            (m-goes (made 0 (object c) (ν c) fields xs vs (object_at (length h)) H.place (drop-none H.stack) (omega (arith, Z.long, H.stack.height, l)) H.heap H.meters e refl
            (all-weaken zero_word zs) l' (all_cons {x = object c} tt (all-weaken (zero-fits (length h + 1 + fields)) zs)) (omega arith) refl))
        on false q =
            let k : L.heap < length h + 1 + length xs = leb-false _ _ q in
            tell (fails-is _ _ _ (lt-leb (s.words + 1 + fields) (length s.heap) (omega (arith, k, H.heap.words, Z.heap, S.small-heap)))) m-ends

    -- THE DEVICE

    -- 13 get
    pub get_meets : (p : Place) (z : ℕ) (vs : List Value) → Holds A ν i vs ds h m s → HoldsBytes m.device
        → Told m (act A (line 19 z) s) (Code.act P.rows (read_register p) i vs ds h)
    unfolding act do_get guard Code.act
    get_meets p z [] H B = m-stuck
    get_meets p z (x ∷ vs) H B =
        number_by (at-stuck m _) x _ (λ n e.
        choice-by (at-stuck m _) (ltb n registers_count) _ _
        (λ b. tell (one-goes H _ ∙ holds-is _ _ _ (ap (λ (w : ℕ). ltb w registers_count) (ap word_of e) ∙ b)) (m-goes (on n (ap word_of e))))
        (λ b. tell (one-goes H _ ∙ fails-is _ _ _ (ap (λ (w : ℕ). ltb w registers_count) (ap word_of e) ∙ b)) m-ends))
      where
        on : (n : ℕ) → word_of x ≡ n
            → Holds A ν (suc i) (number (got n m.device) ∷ vs) ds h (with_device m (after_get n m.device))
            (serving s s.height (set s.stack (values_from + (s.height - 1)) (got (word_of x) (device A s))) s.tape s.marks (after_get (word_of x) (device A s)))
        on n e =
            let d = device A s in
            let q : d ≡ m.device = H.meters.device in
            let y : s.height - 1 + 1 ≡ s.height = omega (arith, H.stack.height) in
            let b = got-byte n B in
            record {
              place = omega (arith, H.place);
              stack = subst (λ (g : ℕ). OnStack g s.calls (set s.stack (values_from + (s.height - 1)) (got (word_of x) d)) (number (got n m.device) ∷ vs) ds (length h)) y
                  (pushed (number (got n m.device)) (got (word_of x) d) (drop-one H.stack) (omega (arith, b)) (ap₂ got (sym e) (sym q)) (omega (arith, Z.within.height, H.stack.height)) few-open);
              heap = H.heap;
              meters = record {
                count = H.meters.count;
                shown = H.meters.shown;
                device = read_back (after_get (word_of x) d) A.tape s.tape (get-tape (word_of x) d) ∙ ap₂ after_get e q;
                hundredth = H.meters.hundredth;
              };
            }

    -- 14 put
    pub put_meets : (p : Place) (z : ℕ) (vs : List Value) → Holds A ν i vs ds h m s
        → Told m (act A (line 20 z) s) (Code.act P.rows (write_register p) i vs ds h)
    unfolding act do_put guard Code.act
    put_meets p z [] H = m-stuck
    put_meets p z (y ∷ []) H = m-stuck
    put_meets p z (y ∷ x ∷ vs) H =
        number_by (at-stuck m _) x _ (λ n e. number_by (at-stuck m _) y _ (λ v f.
        choice-by (at-stuck m _) (ltb n registers_count) _ _
        (λ b. choice-by (at-stuck m _) (ltb v byte_values) _ _
        (λ c. tell (two-goes H _ ∙ holds-is _ _ _ (ap (λ (w : ℕ). ltb w registers_count) (ap word_of e) ∙ b) ∙ holds-is _ _ _ (ap (λ (w : ℕ). ltb w byte_values) (ap word_of f) ∙ c))
        (m-goes (on n v (ap word_of e) (ap word_of f))))
        (λ c. tell (two-goes H _ ∙ holds-is _ _ _ (ap (λ (w : ℕ). ltb w registers_count) (ap word_of e) ∙ b) ∙ fails-is _ _ _ (ap (λ (w : ℕ). ltb w byte_values) (ap word_of f) ∙ c)) m-ends))
        (λ b. tell (two-goes H _ ∙ fails-is _ _ _ (ap (λ (w : ℕ). ltb w registers_count) (ap word_of e) ∙ b)) m-ends)))
      where
        on : (n v : ℕ) → word_of x ≡ n → word_of y ≡ v
            → Holds A ν (suc i) vs ds h (with_device m (after_put n v m.device))
            (serving s (s.height - 2) s.stack s.tape s.marks (after_put (word_of x) (word_of y) (device A s)))
        on n v e f =
            let d = device A s in
            let q : d ≡ m.device = H.meters.device in
            record {
              place = omega (arith, H.place);
              stack = drop-two H.stack;
              heap = H.heap;
              meters = record {
                count = H.meters.count;
                shown = H.meters.shown;
                device = read_back (after_put (word_of x) (word_of y) d) A.tape s.tape (put-tape (word_of x) (word_of y) d)
                    ∙ ap₂ (λ (j w : ℕ). after_put j w d) e f ∙ ap (after_put n v) q;
                hundredth = H.meters.hundredth;
              };
            }

    -- 00 mark
    pub mark-meets : (p z : ℕ) (vs : List Value) → Holds A ν i vs ds h m s → Told m (act A (line 0 z) s) (Code.act P.rows (mark p) i vs ds h)
    unfolding act do_mark guard Code.act
    mark-meets p z vs H = on (ltb m.steps L.budget) refl (eqb (s.marks + 1) period) refl
      where
        q : device A s ≡ m.device
        q = H.meters.device

        sampled : State
        sampled = serving s s.height s.stack (if ltb s.tape (length A.tape) then (λ _. s.tape + 1) otherwise λ _. s.tape) 0 (sample (device A s))

        unsampled : State
        unsampled = serving s s.height s.stack s.tape (s.marks + 1) (device A s)

        on : (b : Bool) → ltb m.steps L.budget ≡ b → (c : Bool) → eqb (s.marks + 1) period ≡ c
            → Meets A ν (L.budget ≤ m.steps) (within b budget_spent p λ _. next (at (suc i) vs ds h) (charged m)) (if c then (λ _. goes sampled) otherwise λ _. goes unsampled)
        on false b c e = m-spent (ltb-false m.steps L.budget b)
        on true b true e =
            let l : s.marks + 1 ≡ 100 = eqb-true (s.marks + 1) 100 e in
            let k : (m.steps + 1) % 100 ≡ 0 = omega (arith, H.meters.hundredth) in
            m-goes {i = suc i} {s = sampled} (record {
              place = omega (arith, H.place);
              stack = H.stack;
              heap = H.heap;
              meters = record {
                count = H.meters.count;
                shown = H.meters.shown;
                device = read_back (sample (device A s)) A.tape (if ltb s.tape (length A.tape) then (λ _. s.tape + 1) otherwise λ _. s.tape) (sample-tape A.tape s.tape (device A s) refl) ∙ ap sample q
                    ∙ sym (yes-is (eqb ((m.steps + 1) % 100) 0) _ _ (eq-eqb _ _ k));
                hundredth = sym k;
              };
            })
        on true b false e =
            let l = eqb-false (s.marks + 1) 100 e in
            let k : (m.steps + 1) % 100 ≡ s.marks + 1 = modular m.steps s.marks H.meters.hundredth l in
            m-goes {i = suc i} {s = unsampled} (record {
              place = omega (arith, H.place);
              stack = H.stack;
              heap = H.heap;
              meters = record {
                count = H.meters.count;
                shown = H.meters.shown;
                device = read_back (device A s) A.tape s.tape refl ∙ q ∙ sym (no-is (eqb ((m.steps + 1) % 100) 0) _ _ (ne_eqb ((m.steps + 1) % 100) 0 (λ y. omega (arith, y, k))));
                hundredth = sym k;
              };
            })
