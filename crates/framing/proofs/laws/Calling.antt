-- The same of the instructions that look at open calls, and of calls.
use Prim.Native.Nat.{ℕ, zero, suc, ◌+◌, ◌-◌, ◌*◌, ◌/◌, ◌%◌, ◌^◌, ◌≤◌, ◌<◌, min}
use native.Mathlib.Omega.{arith}
use Rattle.std.proofs.Common.{mod-eq_of_lt, sym, ◌∙◌, length-set, length-append, drop_of_length-le, take-suc-set, drop-cons}
use Rattle.std.specs.Prelude.{Bool, not, ◌≡◌, set, drop, replicate, ltb, eqb, ℤ, pos}
use Rattle.std.proofs.Math.Bool.{true, false, ◌&&◌}
use mathlib.Core.List.{List, [], ◌∷◌, ◌++◌, map}
use Rattle.std.proofs.Math.Option.{Option, none, some}
use Rattle.std.proofs.Math.Path.{refl, ap, ap₂, subst}
use Rattle.std.proofs.Math.ListN.{length, get_or, get_elem?, take}
use Rattle.std.proofs.lemmas.List.{length-map, length-replicate}
use Rattle.std.proofs.lemmas.List.Edits.{sets}
use Rattle.std.proofs.Math.Dec.{leb}
use borrow.Author.Tests.{ltb-true, ltb-false, leb-true, leb-false, eqb-true, eqb-false, lt-ltb, le-ltb, le-leb, lt-leb, eq-eqb, ne_eqb}
use Rattle.base.specs.All.{All, all_nil, all_cons}
use Rattle.base.specs.Choice.{if◌then◌otherwise◌, option}
use Rattle.base.specs.Codes.{null_reference, negative_size, index_out_of_range, register_out_of_range, registers_count, value_out_of_range, byte_values}
use Rattle.base.specs.Codes.{success, budget_spent, heap_full, calls_full, output_full}
use Rattle.base.specs.Word as Word
use Rattle.base.specs.Word.{modulus, signed, low}
use Rattle.base.specs.laws.Lists.{get-below, all-at, get_d-get, get-map, all_replicate, all-weaken}
use Rattle.base.specs.laws.WordLaws.{add-below, sub-below, mul-below, scale-below}
use Rattle.device.specs.Device.{Device, bit, registers, sample, at_step, got, with_flags, sample_of, after_get, after_put, period}
use Rattle.device.specs.Bits.{bit-0, bit-1}
use Rattle.device.specs.laws.ByteLaws.{HoldsBytes, got-byte}
use Rattle.parser.specs.Tree.{Element, Element.int, Element.boolean, Element.fixed, Element.class, Ty, Ty.plain, Ty.array_of, Place, Operator, Operator.and, Operator.less, Operator.plus, Operator.minus, Operator.times}
use Rattle.typesystem.specs.ClassTable.{Meaning, of_row, of_object}
use Rattle.semantics.specs.Machine.{Value, Value.number, Value.thousandths, Value.flag, Value.null, Value.array_at, Value.object_at, Cell, Cell.object, Cell.array, Cell.slot, apply, apply_fixed, operated, as_slot, read_meaning}
use Rattle.semantics.specs.Machine.{Request.charge, Request.allocate, Request.enter, Request.output, Request.receive, Request.send, Request.move, Request.fault, Request.done, Request.stuck, need, pop, initial, pop_many, as_number, as_thousandths, as_printed, as_flag, as_array, as_object, as_object_cell, as_array_cell, cell_at, array_cell, under_bound, in_bounds, is_register, is_byte, Climbed}
use Rattle.semantics.specs.Limits.{Limits, Meters, charged, called, shown, with_device, Ending, ended, went_wrong, Progress, next, stop, within, guard}
use Rattle.codegen.specs.promises.Code as Code
use Rattle.codegen.specs.promises.Code.{Instruction, mark, push, load, save, self, negate, return, halt, scale, operate, jump, unless, keep, fetch, measure, make_array_lem, make_object_lem, call, print, store_element_lem, read_register, write_register, ClassRow, Entry, climb, Open, back, at, Reply, write_at, operated_by, dispatch}
use Rattle.codegen.proofs.laws.WordRuns.{initial-word}
use Rattle.codegen.specs.promises.Words.{word_of_flag, word_of, cell_word}
use Rattle.base.specs.Codes.{frame_fault}
use Rattle.device.specs.Device.{device_in}
use Rattle.frames.specs.Numbers.{row_places, call_entries, values_from}
use Rattle.frames.specs.Lines.{Line, line}
use Rattle.frames.specs.Machine.{State, Around, Turn, goes, ends, steps, calling, making, showing, serving, device, bad, sure, allowed, word, value_at, one, two, three, room, leave, without, inner, heap_word, field, reference, element, makes, flag_of, operation, all_words_lem, last_values, do_mark, do_push, do_load, do_save, do_self, do_negate, do_return, do_halt, do_operate, do_jump, do_unless, do_keep, do_fetch, do_measure, do_make_array, do_print, do_store_element, do_make_object, opens, entered, call_on, do_call, do_get, do_put, do_scale, act}
use Rattle.frames.specs.Encode.{class_number, place_of, table_line_lem, place_line, operator_line, frame_of}
use Rattle.frames.proofs.laws.Turns.{Within}
use Rattle.framing.proofs.laws.Holding.{Worded, flag_small, worded-below, worded-more, CallFits, CellFits, Values, CallAt, Opens, OnStack, top-worded, drop-none, drop-one, drop-two, drop-three, pushed, more-words, saved, returned, entered-call, OnHeap, heap-word, heap-set, heap-grown}
use Rattle.framing.proofs.laws.Taking.{reduced, Metered, Holds, Meets, m-goes, m-ends, m-spent, m-stuck, sure-is, holds-is, fails-is, word-is, yes-is, no-is, one-is, two_is, three-is, inner-is, room-is, AtStuck, need-by, number_by, thousandths-by, printed-by, flag_by, array-by, object-by, array-cell-by, object-cell-by, cell-by, choice-by}
use Rattle.framing.proofs.laws.Simulating.{Stage, Sized, ν, Told, tell, few_words, few-open, at-stuck, left-none, one-goes, reference-goes, null-goes, header_is, word_at, cell-worded, Fitting, push-meets, negate-meets, halt-meets, operate-meets, scale-meets, jump-meets, unless-meets, keep_meets, print-meets, fetch-meets, measure-meets, store-element-meets, make-array-meets, make-object-meets, get_meets, put_meets, mark-meets}

module _ {P : Code.Code} {L : Limits} {A : Around} (S : Stage P L A) (s : State) (Z : Sized L A s) (i : ℕ) (h : List Cell) (m : Meters) where
  abbrev N : List ℕ → ℕ
  N c = class_number P.rows c

  abbrev T : Turn → Reply → Type 0
  T t r = Meets A N (L.budget ≤ m.steps) (guard L m r) t

  stuck-here : (t : Turn) → AtStuck (T t)
  stuck-here t = at-stuck S s Z m t

  says : {E : Type 0} {r : Progress Code.State} {t u : Turn} → t ≡ u → Meets A N E r u → Meets A N E r t
  says e g = tell S s Z e g

  -- the entries of the innermost call
  module _ {vs : List Value} {r a : ℕ} {xs : List Value} {ds : List Open} (o : OnStack s.height s.calls s.stack vs (back r a xs ∷ ds) (length h)) where
    base-is : call_entries * (s.calls - 1) ≡ call_entries * length ds
    base-is = omega (arith, o.calls)

    receiver-is : get_or s.stack (call_entries * (s.calls - 1)) 0 ≡ suc a
    receiver-is = ap (λ (j : ℕ). get_or s.stack j 0) base-is ∙ o.opens.0.receives

    return-is : get_or s.stack (call_entries * (s.calls - 1) + 1) 0 ≡ r
    return-is = ap (λ (j : ℕ). get_or s.stack (j + 1) 0) base-is ∙ o.opens.0.returns

    call_fits : CallFits (length h) (back r a xs)
    call_fits = first o.called
      where
        first : All (CallFits (length h)) (back r a xs ∷ ds) → CallFits (length h) (back r a xs)
        first (all_cons p q) = p

    row_is : (x : ℕ) {v : Value} → get_elem? xs x ≡ some v → get_or s.stack (call_entries * (s.calls - 1) + 2 + x) 0 ≡ word_of v
    row_is x e =
        let b = get-below xs x e in
        ap (λ (j : ℕ). get_or s.stack (j + 2 + x) 0) base-is ∙ o.opens.0.places x (omega (arith, b, call_fits.2))
        ∙ get_d-get (map word_of xs) x 0 (get-map word_of xs x e)

    row-worded : (x : ℕ) {v : Value} → get_elem? xs x ≡ some v → Worded (length h) v
    row-worded x e = all-at x call_fits.3 e

  -- a field of the receiver
  field-goes : {vs : List Value} {r a : ℕ} {xs : List Value} {ds : List Open} {v : Value} (H : Holds A N i vs (back r a xs ∷ ds) h m s) (q x : ℕ) (k : ℕ → Turn)
      → x ≡ row_places + q → get_elem? h (a + 1 + q) ≡ some (slot v) → field s (call_entries * (s.calls - 1)) x k ≡ k (suc a + (x - row_places))
  unfolding field
  field-goes {a = a} H q x k e g =
      let b = get-below h (a + 1 + q) g in
      let few = few_words S s Z H.heap in
      word-is _ (suc a) _ (receiver-is H.stack) (omega (arith, b, few))
      ∙ sure-is _ _ (ap₂ ◌&&◌ (le-leb 1 (suc a) (omega arith)) (lt-ltb (suc a + (x - row_places)) s.words (omega (arith, e, b, H.heap.words))))

  -- 02 load
  pub load-meets : (o : Option Meaning) (vs : List Value) (ds : List Open) → Holds A N i vs ds h m s → length vs ≤ 66560
      → T (act A (line 2 (place_line o % 2 ^ 32)) s) (Code.act P.rows (load o) i vs ds h)
  unfolding act do_load guard Code.act
  load-meets o vs [] H l = m-stuck
  load-meets none vs (back r a xs ∷ ds) H l = m-stuck
  load-meets (some (of_row y)) vs (back r a xs ∷ ds) H l =
      need-by (stuck-here _) (get_elem? xs y.place) _ (λ v e.
      let b = get-below xs y.place e in
      let f = call_fits H.stack in
      let z : y.place % 2 ^ 32 ≡ y.place = omega (arith, b, f.2) in
      let few = few_words S s Z H.heap in
      says (room-is s _ (omega (arith, Z.long, H.stack.height)) ∙ inner-is s H.stack _
      ∙ yes-is _ _ _ (lt-ltb (y.place % 2 ^ 32) row_places (omega (arith, z, b, f.2)))
      ∙ word-is _ (word_of v) _ (ap (λ (x : ℕ). get_or s.stack (call_entries * (s.calls - 1) + 2 + x) 0) z ∙ row_is H.stack y.place e)
      (worded-below few v (row-worded H.stack y.place e)))
      (m-goes (left-none S s Z H l v (word_of v) (row-worded H.stack y.place e) refl)))
  load-meets (some (of_object y)) vs (back r a xs ∷ ds) H l =
      cell-by (stuck-here _) h a y.place _ (λ v e.
      let b = get-below h (a + 1 + y.place) e in
      let few = few_words S s Z H.heap in
      let x = (32 + y.place) % 2 ^ 32 in
      let z : x ≡ row_places + y.place = omega (arith, b, few) in
      let j : suc a + (x - row_places) ≡ a + 1 + y.place = omega (arith, z) in
      says (room-is s _ (omega (arith, Z.long, H.stack.height)) ∙ inner-is s H.stack _
      ∙ no-is _ _ _ (le-ltb x row_places (omega (arith, z))) ∙ field-goes H y.place x _ z e)
      (m-goes (left-none S s Z H l v (heap_word s (suc a + (x - row_places))) (cell-worded S s Z i ds h m H.heap (a + 1 + y.place) e)
      (sym (word_at S s Z i ds h m H.heap (suc a + (x - row_places)) (a + 1 + y.place) j e)))))

  -- 03 save
  pub save-meets : (o : Option Meaning) (vs : List Value) (ds : List Open) → Holds A N i vs ds h m s
      → T (act A (line 3 (place_line o % 2 ^ 32)) s) (Code.act P.rows (save o) i vs ds h)
  unfolding act do_save guard Code.act
  save-meets o [] ds H = m-stuck
  save-meets o (v ∷ vs) [] H = m-stuck
  save-meets none (v ∷ vs) (back r a xs ∷ ds) H = m-stuck
  save-meets (some (of_row y)) (v ∷ vs) (back r a xs ∷ ds) H =
      need-by (stuck-here _) (get_elem? xs y.place) _ (λ u e.
      let b = get-below xs y.place e in
      let f = call_fits H.stack in
      let z : y.place % 2 ^ 32 ≡ y.place = omega (arith, b, f.2) in
      says (one-goes S s Z H _ ∙ inner-is s H.stack _
      ∙ yes-is _ _ _ (lt-ltb (y.place % 2 ^ 32) row_places (omega (arith, z, b, f.2)))
      ∙ ap (λ (x : ℕ). goes (steps s (s.line + 1) (s.height - 1) (set s.stack (call_entries * (s.calls - 1) + 2 + x) (word_of v)))) z)
      (m-goes (record {
        place = omega (arith, H.place);
        stack = saved v (word_of v) y.place (drop-one H.stack) (top-worded H.stack) refl b (few-open S s Z) (omega (arith, Z.long));
        heap = H.heap;
        meters = H.meters;
      })))
  save-meets (some (of_object y)) (v ∷ vs) (back r a xs ∷ ds) H =
      cell-by (stuck-here _) h a y.place _ (λ u e.
      let b = get-below h (a + 1 + y.place) e in
      let few = few_words S s Z H.heap in
      let x = (32 + y.place) % 2 ^ 32 in
      let z : x ≡ row_places + y.place = omega (arith, b, few) in
      let j : suc a + (x - row_places) ≡ a + 1 + y.place = omega (arith, z) in
      says (one-goes S s Z H _ ∙ inner-is s H.stack _ ∙ no-is _ _ _ (le-ltb x row_places (omega (arith, z))) ∙ field-goes H y.place x _ z e)
      (m-goes (record {
        place = omega (arith, H.place);
        stack = subst (OnStack (s.height - 1) s.calls s.stack vs (back r a xs ∷ ds)) (sym (length-set h (a + 1 + y.place) (slot v))) (drop-one H.stack);
        heap = subst (λ (k : ℕ). OnHeap N s.words (set s.heap k (signed (word_of v))) (set h (a + 1 + y.place) (slot v))) (sym j)
            (heap-set N H.heap (a + 1 + y.place) (slot v) b (omega (arith, H.heap.words, Z.within.words)) (top-worded H.stack));
        meters = H.meters;
      })))

  -- 04 self
  pub self-meets : (vs : List Value) (ds : List Open) → Holds A N i vs ds h m s → length vs ≤ 66560
      → T (act A (line 4 0) s) (Code.act P.rows self i vs ds h)
  unfolding act do_self guard Code.act
  self-meets vs [] H l = m-stuck
  self-meets vs (back r a xs ∷ ds) H l =
      let f = call_fits H.stack in
      let few = few_words S s Z H.heap in
      says (sure-is _ _ refl ∙ room-is s _ (omega (arith, Z.long, H.stack.height)) ∙ inner-is s H.stack _
      ∙ word-is _ (suc a) _ (receiver-is H.stack) (omega (arith, f.0, few)))
      (m-goes (left-none S s Z H l (object_at a) (suc a) f.0 refl))

  -- 06 return
  pub return-meets : (vs : List Value) (ds : List Open) → Holds A N i vs ds h m s → T (act A (line 6 0) s) (Code.act P.rows return i vs ds h)
  unfolding act do_return guard Code.act
  return-meets vs [] H = m-stuck
  return-meets vs (back r a xs ∷ ds) H =
      let f = call_fits H.stack in
      says (sure-is _ _ refl ∙ inner-is s H.stack _ ∙ word-is _ r _ (return-is H.stack) f.1)
      (m-goes (record { place = refl; stack = returned H.stack; heap = H.heap; meters = H.meters }))

  -- CALLS

  -- so many values, taken together
  many_by : (t : Turn) (n : ℕ) (got vs : List Value) (k : List Value → List Value → Reply) → Values s.stack vs → All (Worded (length h)) vs
      → All (Worded (length h)) got → take (length got) (drop (values_from + length vs) s.stack) ≡ map word_of got
      → values_from + length vs + length got ≤ length s.stack
      → ((given rest : List Value) → length given ≡ n + length got → n + length rest ≡ length vs → Values s.stack rest → All (Worded (length h)) rest
      → All (Worded (length h)) given → take (length given) (drop (values_from + length rest) s.stack) ≡ map word_of given → T t (k given rest))
      → T t (pop_many n got vs k)
  unfolding guard
  many_by t zero got vs k Y W G e l f = f got vs (omega arith) (omega arith) Y W G e
  many_by t (suc n) got [] k Y W G e l f = m-stuck
  many_by t (suc n) got (v ∷ vs) k Y (all_cons w W) G e l f =
      let z : values_from + suc (length vs) ≡ suc (values_from + length vs) = omega arith in
      let q : take (suc (length got)) (drop (values_from + length vs) s.stack) ≡ word_of v ∷ map word_of got
      = ap (take (suc (length got))) (drop-cons s.stack (values_from + length vs) 0 (omega arith))
      ∙ ap₂ (λ (x : ℕ) (r : List ℕ). x ∷ r) Y.0 (ap (λ (j : ℕ). take (length got) (drop j s.stack)) (sym z) ∙ e) in
      many_by t n (v ∷ got) vs k Y.1 W (all_cons w G) q (omega arith)
      (λ given rest a b c d g y. f given rest (omega (arith, a)) (omega (arith, b)) c d g y)

  all_words : {n : ℕ} → n ≤ 16384 → {vs : List Value} → All (Worded n) vs → all_words_lem (map word_of vs) ≡ true
  unfolding all_words_lem
  all_words l all_nil = refl
  all_words l (all_cons {x = v} w W) = ap₂ ◌&&◌ (lt-ltb (word_of v) modulus (worded-below l v w)) (all_words l W)

  entered-is : (ls : List Line) (j a : ℕ) (k : ℕ → Turn) → get_elem? ls j ≡ some (line 22 a) → entered ls j k ≡ k a
  unfolding entered
  entered-is ls j a k e = ap (λ (o : Option Line). option o bad λ x. sure (eqb x.code 22) λ _. k x.operand) e ∙ sure-is _ _ refl

  -- the state in which a call begins
  opened : (m' : Meters) (n : ℕ) (ds : List Open) (vs given locals : List Value) (x : Value) (a l : ℕ) → n ≤ row_places → s.line ≡ i
      → OnStack (s.height - (n + 1)) s.calls s.stack vs ds (length h) → OnHeap N s.words s.heap h
      → Metered A s.printed s.output s.registers s.tape s.marks m' → length given ≡ n → word_of x ≡ suc a
      → All (Worded (length h)) given → last_values s n ≡ map word_of given → a < length h → i < 8192 → length given + length locals ≤ row_places
      → All (Worded 0) locals → All (λ (v : Value). word_of v ≡ 0) locals → s.calls < A.calls
      → Holds A N l vs (back (suc i) a (given ++ locals) ∷ ds) h m' (opens s n (word_of x) l)
  opened m' n ds vs given locals x a l small place O heap M many is W last b j fits worded zeros c =
      let k : suc i ≡ s.line + 1 = omega (arith, place) in
      let few : s.calls < 64 = omega (arith, S.same-calls, S.few-calls) in
      let E : sets s.stack (call_entries * s.calls) (suc a ∷ suc i ∷ last_values s n ++ replicate (row_places - length given) 0)
      ≡ sets s.stack (call_entries * s.calls) (word_of x ∷ (s.line + 1) ∷ last_values s n ++ replicate (row_places - n) 0)
      = ap₂ (λ (u v : ℕ). sets s.stack (call_entries * s.calls) (u ∷ v ∷ last_values s n ++ replicate (row_places - length given) 0)) (sym is) k
      ∙ ap (λ (u : ℕ). sets s.stack (call_entries * s.calls) (word_of x ∷ (s.line + 1) ∷ last_values s n ++ replicate (row_places - u) 0)) many in
      record {
        place = refl;
        stack = subst (λ (u : List ℕ). OnStack (s.height - (n + 1)) (s.calls + 1) u vs (back (suc i) a (given ++ locals) ∷ ds) (length h)) E
            (entered-call (suc i) a given locals (last_values s n) O few (omega (arith, Z.long)) b (omega arith) last fits W
            (all-weaken (worded-more {n = 0} {m = length h} (omega arith)) worded) zeros);
        heap = heap;
        meters = M;
      }

  -- what is called, with its arguments taken
  dispatch-meets : (p : Place) (f : List ℕ) (n : ℕ) (ds : List Open) (vs given : List Value) (x : Value) → n ≤ row_places → i < 8192
      → s.line ≡ i → OnStack (s.height - (n + 1)) s.calls s.stack vs ds (length h) → OnHeap N s.words s.heap h
      → Metered A s.printed s.output s.registers s.tape s.marks m → length given ≡ n → Worded (length h) x
      → All (Worded (length h)) given → last_values s n ≡ map word_of given → n + 1 ≤ s.height → value_at s (s.height - (n + 1)) ≡ word_of x
      → T (call_on A (table_line_lem P f) n s) (dispatch P.rows p f given x i vs ds h)
  unfolding guard dispatch call_on
  dispatch-meets p f n ds vs given x small j place O heap M many w W last there value =
      let few = few_words S s Z heap in
      let way : call_on A (table_line_lem P f) n s ≡ _
      = sure-is _ _ (le-leb n row_places small) ∙ sure-is _ _ (le-leb (n + 1) s.height there)
      ∙ sure-is _ _ (ap all_words_lem last ∙ all_words few W) ∙ word-is _ (word_of x) _ value (worded-below few x w) in
      object-by (stuck-here _) p x _ (λ z. says (way ∙ null-goes S s Z i ds h m (word_of x) _ (ap word_of z)) m-ends) (λ a q.
      object-cell-by (stuck-here _) h a _ (λ c g.
      need-by (stuck-here _) (climb (length P.rows) P.rows c f) _ (λ e y.
      choice-by (stuck-here _) (eqb (length given) e.found.parameters) _ _
      (λ b.
      let count = eqb-true (length given) e.found.parameters b in
      let header = header_is S s Z i ds h m heap (word_of x) a (ap word_of q) g in
      let shape = S.shaped c f e y in
      says (way ∙ reference-goes S s Z i ds h m heap (word_of x) a _ (ap word_of q) g
      ∙ entered-is A.lines (table_line_lem P f + heap_word s (word_of x - 1)) e.found.address _
      (ap (λ (v : ℕ). get_elem? A.lines (table_line_lem P f + v)) header ∙ S.table_at c f e y))
      (on p n ds vs given x small place O heap M many W last a (ap word_of q) (get-below h a g) j e.found.address e.visits e.found.locals (omega (arith, shape.0, count)) shape.1 shape.2
      (leb (length ds + 1) L.calls) refl))
      (λ b. m-stuck))))
    where
      on : (p : Place) (n : ℕ) (ds : List Open) (vs given : List Value) (x : Value) → n ≤ row_places
          → s.line ≡ i → OnStack (s.height - (n + 1)) s.calls s.stack vs ds (length h) → OnHeap N s.words s.heap h
          → Metered A s.printed s.output s.registers s.tape s.marks m → length given ≡ n
          → All (Worded (length h)) given → last_values s n ≡ map word_of given → (a : ℕ) → word_of x ≡ suc a → a < length h → i < 8192 → (l v : ℕ) (locals : List Value)
          → length given + length locals ≤ row_places → All (Worded 0) locals → All (λ (v : Value). word_of v ≡ 0) locals
          → (b : Bool) → leb (length ds + 1) L.calls ≡ b
          → Meets A N (L.budget ≤ m.steps) (within b calls_full p.start λ _. next (at l vs (back (suc i) a (given ++ locals) ∷ ds) h) (called m v))
          (allowed calls_full (ltb s.calls A.calls) λ _. goes (opens s n (word_of x) l))
      on p n ds vs given x small place O heap M many W last a is b j l v locals fits worded zeros true q =
          let c : s.calls < A.calls = omega (arith, leb-true (length ds + 1) L.calls q, O.calls, S.same-calls) in
          says (holds-is _ _ _ (lt-ltb s.calls A.calls c))
          (m-goes (opened (called m v) n ds vs given locals x a l small place O heap (record { count = M.count; shown = M.shown; device = M.device; hundredth = M.hundredth }) many is W last b j fits worded zeros c))
      on p n ds vs given x small place O heap M many W last a is b j l v locals fits worded zeros false q =
          let c : A.calls ≤ s.calls = omega (arith, leb-false (length ds + 1) L.calls q, O.calls, S.same-calls) in
          says (fails-is _ _ _ (le-ltb s.calls A.calls c)) m-ends

  -- 12 call
  pub call-meets : (p : Place) (f : List ℕ) (n : ℕ) (vs : List Value) (ds : List Open) → Holds A N i vs ds h m s → n ≤ row_places → i < 8192
      → T (act A (line 18 ((256 * table_line_lem P f + n) % 2 ^ 32)) s) (Code.act P.rows (call p f n) i vs ds h)
  unfolding act do_call guard Code.act
  call-meets p f n vs ds H small j =
      let hi : (256 * table_line_lem P f + n) % 2 ^ 32 / 256 ≡ table_line_lem P f = omega (arith, S.table-small f) in
      let lo : (256 * table_line_lem P f + n) % 2 ^ 32 % 256 ≡ n = omega (arith, S.table-small f) in
      says (ap₂ (λ (t k : ℕ). call_on A t k s) hi lo)
      (many_by (call_on A (table_line_lem P f) n s) n [] vs _ H.stack.values H.stack.worded all_nil refl (omega (arith, Z.within.height, H.stack.height)) on)
    where
      on : (given rest : List Value) → length given ≡ n + 0 → n + length rest ≡ length vs → Values s.stack rest → All (Worded (length h)) rest
          → All (Worded (length h)) given → take (length given) (drop (values_from + length rest) s.stack) ≡ map word_of given
          → T (call_on A (table_line_lem P f) n s) (pop rest λ x vs. dispatch P.rows p f given x i vs ds h)
      on given [] a b Y W G e = (stuck-here (call_on A (table_line_lem P f) n s)).at
      on given (x ∷ rest) a b Y (all_cons w W) G e =
          let c : s.height - n ≡ suc (length rest) = omega (arith, b, H.stack.height) in
          let d : s.height - (n + 1) ≡ length rest = omega (arith, b, H.stack.height) in
          let k : length given ≡ n = omega (arith, a) in
          dispatch-meets p f n ds rest given x small j H.place
          (record { height = d; values = Y.1; calls = H.stack.calls; opens = H.stack.opens; worded = W; called = H.stack.called })
          H.heap H.meters k w G
          (ap₂ (λ (u v : ℕ). take u (drop (values_from + v) s.stack)) (sym k) c ∙ e) (omega (arith, b, H.stack.height))
          (ap (value_at s) d ∙ Y.0)

-- EVERY INSTRUCTION

module _ {P : Code.Code} {L : Limits} {A : Around} (S : Stage P L A) (s : State) (Z : Sized L A s) (i : ℕ) (vs : List Value) (ds : List Open)
    (h : List Cell) (m : Meters) (H : Holds A (class_number P.rows) i vs ds h m s) (few : length vs ≤ 66560) (B : HoldsBytes m.device) where
  pub acts : (x : Instruction) → Fitting 8192 x → i < 8192
      → Meets A (class_number P.rows) (L.budget ≤ m.steps) (guard L m (Code.act P.rows x i vs ds h)) (act A (reduced (frame_of P x)) s)
  acts (mark p) f l = mark-meets S s Z i ds h m p _ vs H
  acts (push v) f l = push-meets S s Z i ds h m v H few f
  acts (load o) f l = load-meets S s Z i h m o vs ds H few
  acts (save o) f l = save-meets S s Z i h m o vs ds H
  acts self f l = self-meets S s Z i h m vs ds H few
  acts negate f l = negate-meets S s Z i ds h m vs H
  acts return f l = return-meets S s Z i h m vs ds H
  acts halt f l = halt-meets S s Z i ds h m vs
  acts scale f l = scale-meets S s Z i ds h m vs H
  acts (operate and) f l = operate-meets S s Z i ds h m and vs H
  acts (operate less) f l = operate-meets S s Z i ds h m less vs H
  acts (operate plus) f l = operate-meets S s Z i ds h m plus vs H
  acts (operate minus) f l = operate-meets S s Z i ds h m minus vs H
  acts (operate times) f l = operate-meets S s Z i ds h m times vs H
  acts (jump j) f l = jump-meets S s Z i ds h m j vs H f
  acts (unless j) f l = unless-meets S s Z i ds h m j vs H f
  acts (keep j) f l = keep_meets S s Z i ds h m j vs H f
  acts (fetch p) f l = fetch-meets S s Z i ds h m p _ vs H
  acts (measure p) f l = measure-meets S s Z i ds h m p _ vs H
  acts (print p) f l = print-meets S s Z i ds h m p _ vs H
  acts (store_element_lem p) f l = store-element-meets S s Z i ds h m p _ vs H
  acts (read_register p) f l = get_meets S s Z i ds h m p _ vs H B
  acts (write_register p) f l = put_meets S s Z i ds h m p _ vs H
  acts (make_array_lem p t) f l = make-array-meets S s Z i ds h m p t _ vs H
  acts (make_object_lem p c xs) f l = make-object-meets S s Z i ds h m p c xs vs H few f
  acts (call p g n) f l = call-meets S s Z i h m p g n vs ds H f l
