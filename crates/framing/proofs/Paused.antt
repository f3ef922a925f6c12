-- Document 02, (xiii), of the operations: "for every list of one or more budgets whose sum is at most 4294967295, used up to the first end
-- other than 50, the end, printed numbers and strips equal one run with the sum", which changes "its price at the same frame". For every
-- text of frames whose lines are of the form, every tape and all strips.
use Rattle.std.specs.Prelude.{ℕ, ◌+◌, ◌-◌, ◌≤◌, ◌<◌, Bool, ◌⊎◌, ◌≡◌, length, replicate, ℤ, pos}
use Rattle.std.proofs.Common.{arith, inl, inr, sym, ◌∙◌, eqb-true}
use Rattle.std.proofs.Math.Bool.{true, false}
use mathlib.Core.List.{List, [], ◌∷◌}
use Rattle.std.proofs.Math.Option.{Option}
use Rattle.std.proofs.Math.Path.{refl, ap, ap₂}
use Rattle.std.proofs.lemmas.List.{length-replicate}
use Rattle.std.proofs.Math.Dec.{eqb}
use Rattle.base.specs.All.{All, all_nil, all_cons}
use Rattle.base.specs.Choice.{if◌then◌otherwise◌, option}
use Rattle.base.specs.Codes.{budget_spent, registers_count}
use Rattle.base.specs.Outcome.{Outcome, accepted}
use Rattle.device.specs.Device.{registers}
use Rattle.base.specs.Codes.{record_unfit}
use Rattle.device.specs.Device.{device_in}
use Rattle.frames.specs.Numbers.{budget_most}
use Rattle.frames.specs.Lines.{Line, lines}
use Rattle.frames.specs.Machine.{State, Around}
use Rattle.frames.specs.Parts.{Report, run_frames, Part, one_part_lem, in_parts, prices_of, sum}
use Rattle.frames.specs.Operations.{Record, no_record_lem, Strips, Limits, Answer, fits, state_of, cleared, record_from, answer}
use Rattle.frames.specs.Operations.{part_from, begins, going_on, refusal, run, continue}
use Rattle.frames.proofs.laws.Turns.{Within, registers-normal}
use Rattle.framing.proofs.laws.Cuts.{Fair, parts-are-one}
use Rattle.framing.proofs.laws.Reaching.{frames-most}
use Rattle.framing.proofs.laws.Operating.{leaves, frame-due, FitFor, fit_none, paused-answer, same-state, record-fits, fits-within}

-- the limits of a part, with the same call limit in each
abbrev pub limits_for : (calls : ℕ) → Part → Limits
limits_for c q = record { budget = q.budget; calls = c; price = q.price }

-- "Each part is given the price, 1 or 10"
abbrev pub Priced10 : Part → Type 0
Priced10 q = (q.price ≡ 1) ⊎ (q.price ≡ 10)

-- the operations one after another: each part gets the record and the strips as the last one left them
unfoldable pub go_on_lem : (frames tape : List ℕ) → (calls : ℕ) → List Part → Answer → Answer
go_on_lem s tape c [] x = x
go_on_lem s tape c (q ∷ qs) x =
    if eqb x.number budget_spent then (λ _. go_on_lem s tape c qs (continue s tape (limits_for c q) x.pause x.strips)) otherwise λ _. x

abbrev pub in_turn : (frames tape : List ℕ) → (calls : ℕ) → Part → List Part → Strips → Answer
in_turn s tape c q qs m = go_on_lem s tape c qs (run s tape (limits_for c q) m)

-- strips of the same lengths, with the same output strip: what heap strip, stack strip and register strip hold may differ
pub record Alike (m m' : Strips) : Type 0 where
  pub heap : length m.heap ≡ length m'.heap
  pub output : m.output ≡ m'.output
  pub registers : length m.registers ≡ length m'.registers
  pub stack : length m.stack ≡ length m'.stack

fit-alike : {L : Limits} {m m' : Strips} → FitFor L m → Alike m m' → FitFor L m'
fit-alike f a =
    record {
      some-calls = f.some-calls;
      few-calls = f.few-calls;
      heap = omega (arith, f.heap, a.heap);
      registers = sym a.registers ∙ f.registers;
      price = f.price;
      stack = omega (arith, f.stack, a.stack);
    }

cleared-alike : {m m' : Strips} → Alike m m' → cleared m ≡ cleared m'
cleared-alike {m} {m'} a =
    ap₂ (λ (h k : ℕ). record {
      heap = replicate h
          (pos 0);
      output = m.output;
      registers = replicate registers_count 0;
      stack = replicate k 0;
    }) a.heap a.stack
    ∙ ap (λ (o : List ℤ). record {
      heap = replicate (length m'.heap)
          (pos 0);
      output = o;
      registers = replicate registers_count 0;
      stack = replicate (length m'.stack) 0;
    })
    a.output

pub priced-fair : (q : Part) → Priced10 q → Fair q
priced-fair q (inl e) = omega (arith, e)
priced-fair q (inr e) = omega (arith, e)

pub all_fair : {qs : List Part} → All Priced10 qs → All Fair qs
all_fair all_nil = all_nil
all_fair (all_cons {x = q} p h) = all_cons (priced-fair q p) (all_fair h)

module _ (s tape : List ℕ) (ls : List Line) (text : lines s ≡ accepted ls) (c : ℕ) (one : 1 ≤ c) (most : c ≤ 64) where
  abbrev A : Around
  A = record { lines = ls; tape = tape; calls = c }

  -- a part that goes on with what a paused one left
  goes_on : (q : Part) (r : Report) → Priced10 q → r.number ≡ budget_spent → Within A r.state → r.state.line < length ls
      → length r.state.heap ≤ 16384
      → 140000 ≤ length r.state.stack → r.frames + r.unspent + q.budget ≤ budget_most
      → continue s tape (limits_for c q) (answer r).pause (answer r).strips ≡ answer (one_part_lem A q r.frames r.unspent r.state)
  unfolding continue
  goes_on q r p e w l heap stack b =
      let z = paused-answer r e in
      let t = r.state in
      let m : Strips = record { heap = t.heap; output = t.output; registers = t.registers; stack = t.stack } in
      let fit : FitFor (limits_for c q) m
      = record { some-calls = one; few-calls = most; heap = heap; registers = w.sixteen; price = p; stack = stack } in
      ap₂ (λ (k : Record) (m : Strips). continue s tape (limits_for c q) k m) (ap (λ (x : Answer). x.pause) z) (ap (λ
      (x : Answer). x.strips) z)
      ∙ ap (λ (o : Option ℕ). option o (going_on (lines s) tape (limits_for c q) (record_from r) m) λ n. refusal n 0 m) (fit_none
      (limits_for c q) m fit)
      ∙ ap (λ (o : Outcome (List Line)). going_on o tape (limits_for c q) (record_from r) m) text
      ∙ ap (λ (x : Bool). if x then (λ _. part_from ls tape (limits_for c q) (record_from r) m) otherwise λ _. refusal record_unfit 0 m)
      (record-fits ls tape (limits_for c q) r w l b)
      ∙ ap (λ (t : State). answer (run_frames A (λ _. q.price) r.frames (r.unspent + q.budget) t)) (same-state tape r
      (w.registers tape r.state.tape))

  onwards : (q : Part) (qs : List Part) (n u : ℕ) (t : State) → Priced10 q → All Priced10 qs → Within A t → length t.heap ≤ 16384
      → 140000 ≤ length t.stack → n + u + (q.budget + sum qs) ≤ budget_most
      → go_on_lem s tape c qs (answer (one_part_lem A q n u t)) ≡ answer (in_parts A q qs n u t)
  unfolding go_on_lem in_parts run_frames
  onwards q [] n u t p ps w heap stack b = refl
  onwards q (q' ∷ qs) n u t p (all_cons p' ps) w heap stack b =
      let k = leaves A (λ _. q.price) (u + q.budget + 1) n (u + q.budget) t w in
      let f = frames-most A (λ _. q.price) (λ _. priced-fair q p) (u + q.budget + 1) n (u + q.budget) t (omega arith) in
      by (eqb (one_part_lem A q n u t).number budget_spent) refl
      (λ e. goes_on q' (one_part_lem A q n u t) p' e k.within (frame-due A (λ _. q.price) (λ _. priced-fair q p) (u + q.budget + 1) n
      (u + q.budget) t (omega arith) e)
      (omega (arith, k.lengths.heap)) (omega (arith, k.lengths.stack)) (omega (arith, f)))
      (onwards q' qs (one_part_lem A q n u t).frames (one_part_lem A q n u t).unspent (one_part_lem A q n u t).state p' ps k.within
      (omega (arith, k.lengths.heap)) (omega (arith, k.lengths.stack)) (omega (arith, f)))
    where
      by : (x : Bool) → eqb (one_part_lem A q n u t).number budget_spent ≡ x
          → ((one_part_lem A q n u t).number ≡ budget_spent → continue s tape (limits_for c q') (answer (one_part_lem A q n u t)).pause (answer
          (one_part_lem A q n u t)).strips
          ≡ answer (one_part_lem A q' (one_part_lem A q n u t).frames (one_part_lem A q n u t).unspent (one_part_lem A q n u t).state))
          → go_on_lem s tape c qs (answer (one_part_lem A q' (one_part_lem A q n u t).frames (one_part_lem A q n u t).unspent (one_part_lem A q n u t).state))
          ≡ answer (in_parts A q' qs (one_part_lem A q n u t).frames (one_part_lem A q n u t).unspent (one_part_lem A q n u t).state)
          → (if x then (λ _. go_on_lem s tape c qs (continue s tape (limits_for c q') (answer (one_part_lem A q n u t)).pause (answer
          (one_part_lem A q n u t)).strips)) otherwise λ _. answer (one_part_lem A q n u t))
          ≡ answer (if x then (λ _. in_parts A q' qs (one_part_lem A q n u t).frames (one_part_lem A q n u t).unspent
          (one_part_lem A q n u t).state) otherwise λ _. one_part_lem A q n u t)
      by true e f g = ap (go_on_lem s tape c qs) (f (eqb-true (one_part_lem A q n u t).number budget_spent e)) ∙ g
      by false e f g = refl

  -- as a run begins
  first-within : (m : Strips) → 140000 ≤ length m.stack → Within A (state_of tape no_record_lem (cleared m))
  first-within m l =
      record {
        height = omega (arith, l, length-replicate {A = ℕ} (length m.stack) 0);
        calls = omega arith;
        words = omega arith;
        printed = omega arith;
        tape = omega arith;
        marks = omega arith;
        registers = registers-normal (device_in tape (cleared m).registers 0);
        sixteen = refl;
      }

  -- a first part answers what the machine does
  pub run-answers : (q : Part) (m : Strips) → FitFor (limits_for c q) m
      → run s tape (limits_for c q) m ≡ answer (one_part_lem A q 0 0 (state_of tape no_record_lem (cleared m)))
  unfolding run
  run-answers q m f =
      ap (λ (o : Option ℕ). option o (begins (lines s) tape (limits_for c q) m) λ n. refusal n 0 m) (fit_none (limits_for c q) m f)
      ∙ ap (λ (o : Outcome (List Line)). begins o tape (limits_for c q) m) text

  -- A first part does not look at what heap strip, stack strip and register strip held before: answer, record and all strips are the same.
  pub run-regardless : (q : Part) (m m' : Strips) → FitFor (limits_for c q) m → Alike m m'
      → run s tape (limits_for c q) m ≡ run s tape (limits_for c q) m'
  run-regardless q m m' f a =
      run-answers q m f ∙ ap (λ (m : Strips). answer (one_part_lem A q 0 0 (state_of tape no_record_lem m))) (cleared-alike a)
      ∙ sym (run-answers q m' (fit-alike f a))

  -- nor do the parts that go on from it
  pub parts-regardless : (q : Part) (qs : List Part) (m m' : Strips) → FitFor (limits_for c q) m → Alike m m'
      → in_turn s tape c q qs m ≡ in_turn s tape c q qs m'
  parts-regardless q qs m m' f a = ap (go_on_lem s tape c qs) (run-regardless q m m' f a)

  -- all parts together answer what the machine does in parts
  pub turns-answer : (q : Part) (qs : List Part) (m : Strips) → FitFor (limits_for c q) m → All Priced10 qs → q.budget + sum qs ≤ budget_most
      → in_turn s tape c q qs m ≡ answer (in_parts A q qs 0 0 (state_of tape no_record_lem (cleared m)))
  turns-answer q qs m f ps b =
      ap (go_on_lem s tape c qs) (run-answers q m f)
      ∙ onwards q qs 0 0 (state_of tape no_record_lem (cleared m)) f.price ps (first-within m f.stack)
      (omega (arith, f.heap, length-replicate (length m.heap) (pos 0)))
      (omega (arith, f.stack, length-replicate {A = ℕ} (length m.stack) 0))
      (omega arith)

  -- THE THEOREM
  pub parts-answer : (q : Part) (qs : List Part) (m : Strips) → FitFor (limits_for c q) m → All Priced10 qs → q.budget + sum qs ≤ budget_most
      → in_turn s tape c q qs m
      ≡ answer (run_frames A (prices_of A q qs 0 0 (state_of tape no_record_lem (cleared m))) 0 (0 + (q.budget + sum qs)) (state_of tape no_record_lem
      (cleared m)))
  parts-answer q qs m f ps b =
      let t = state_of tape no_record_lem (cleared m) in
      turns-answer q qs m f ps b
      ∙ ap answer (parts-are-one A q qs 0 0 t (priced-fair q f.price) (all_fair ps))

  -- a further part, from a record that the operation does not refuse
  continue-answers : (q : Part) (r : Record) (m : Strips) → FitFor (limits_for c q) m → fits ls tape (limits_for c q) m r ≡ true
      → continue s tape (limits_for c q) r m ≡ answer (one_part_lem A q r.frames r.unspent (state_of tape r m))
  unfolding continue
  continue-answers q r m f e =
      ap (λ (o : Option ℕ). option o (going_on (lines s) tape (limits_for c q) r m) λ n. refusal n 0 m) (fit_none (limits_for c q) m f)
      ∙ ap (λ (o : Outcome (List Line)). going_on o tape (limits_for c q) r m) text
      ∙ ap (λ (x : Bool). if x then (λ _. part_from ls tape (limits_for c q) r m) otherwise λ _. refusal record_unfit 0 m) e

  -- The same from any record that the operation does not refuse, on any strips: what was unspent and the frames so far are carried along.
  pub parts-from-record : (q : Part) (qs : List Part) (r : Record) (m : Strips) → FitFor (limits_for c q) m → All Priced10 qs
      → fits ls tape (limits_for c q) m r ≡ true → r.frames + r.unspent + (q.budget + sum qs) ≤ budget_most
      → go_on_lem s tape c qs (continue s tape (limits_for c q) r m)
      ≡ answer (run_frames A (prices_of A q qs r.frames r.unspent (state_of tape r m)) r.frames (r.unspent + (q.budget + sum qs))
      (state_of tape r m))
  parts-from-record q qs r m f ps e b =
      let t = state_of tape r m in
      ap (go_on_lem s tape c qs) (continue-answers q r m f e)
      ∙ onwards q qs r.frames r.unspent t f.price ps (fits-within ls tape (limits_for c q) m r f e) f.heap f.stack b
      ∙ ap answer (parts-are-one A q qs r.frames r.unspent t (priced-fair q f.price) (all_fair ps))

  -- WHAT A PART HANDS BACK FITS

  -- whether what an answer hands back fits a further part
  abbrev fits_next : Answer → Part → Bool
  fits_next x q = fits ls tape (limits_for c q) x.strips x.pause

  hands-back : (q q' : Part) (n u : ℕ) (t : State) → Priced10 q → Within A t → n + u + (q.budget + q'.budget) ≤ budget_most
      → (answer (one_part_lem A q n u t)).number ≡ budget_spent → fits_next (answer (one_part_lem A q n u t)) q' ≡ true
  unfolding run_frames
  hands-back q q' n u t p w b e =
      let r = one_part_lem A q n u t in
      let k = leaves A (λ _. q.price) (u + q.budget + 1) n (u + q.budget) t w in
      let f = frames-most A (λ _. q.price) (λ _. priced-fair q p) (u + q.budget + 1) n (u + q.budget) t (omega arith) in
      ap (λ (x : Answer). fits_next x q') (paused-answer r e)
      ∙ record-fits ls tape (limits_for c q') r k.within
      (frame-due A (λ _. q.price) (λ _. priced-fair q p) (u + q.budget + 1) n (u + q.budget) t (omega arith) e) (omega (arith, f))

  -- A record that a part hands back is not refused by the next one, where all else is alike: after a first part,
  pub first-hands-back : (q q' : Part) (m : Strips) → FitFor (limits_for c q) m → q.budget + q'.budget ≤ budget_most
      → (run s tape (limits_for c q) m).number ≡ budget_spent → fits_next (run s tape (limits_for c q) m) q' ≡ true
  first-hands-back q q' m f b e =
      let z = run-answers q m f in
      ap (λ (x : Answer). fits_next x q') z
      ∙ hands-back q q' 0 0 (state_of tape no_record_lem (cleared m)) f.price (first-within m f.stack) (omega (arith, b))
      (sym (ap (λ (x : Answer). x.number) z) ∙ e)

  -- and after one that went on from a record itself
  pub next-hands-back : (q q' : Part) (r : Record) (m : Strips) → FitFor (limits_for c q) m → fits ls tape (limits_for c q) m r ≡ true
      → r.frames + r.unspent + (q.budget + q'.budget) ≤ budget_most → (continue s tape (limits_for c q) r m).number ≡ budget_spent
      → fits_next (continue s tape (limits_for c q) r m) q' ≡ true
  next-hands-back q q' r m f g b e =
      let z = continue-answers q r m f g in
      ap (λ (x : Answer). fits_next x q') z
      ∙ hands-back q q' r.frames r.unspent (state_of tape r m) f.price (fits-within ls tape (limits_for c q) m r f g) b
      (sym (ap (λ (x : Answer). x.number) z) ∙ e)
