-- From what the machine does to what the operations answer.
use Prim.Native.Nat.{ℕ, zero, suc, ◌+◌, ◌-◌, ◌*◌, ◌≤◌, ◌<◌}
use Rattle.std.proofs.Common.{arith, inl, inr, sym, ap, ap₂, ◌∙◌, subst, length-drop, ltb-true, ltb-false, leb-true, lt-ltb, le-ltb, le-leb, eqb-true, eq-eqb}
use Rattle.std.specs.Prelude.{Bool, true, false, ◌&&◌, ◌||◌, not, List, [], ◌∷◌, ◌≢◌, ◌⊎◌, ◌≡◌, length, replicate, ltb, leb, eqb, ℤ, pos}
use Rattle.std.proofs.Math.Option.{Option, none, some}
use Rattle.std.proofs.Math.Path.{refl}
use Rattle.std.proofs.Math.ListN.{get_elem?}
use Rattle.std.proofs.lemmas.Bool.{eqb-false}
use Rattle.base.specs.Choice.{if◌then◌otherwise◌, option}
use Rattle.base.specs.Codes.{budget_spent, call_limit_out_of_range, calls_most, heap_too_long, heap_most, registers_not_sixteen, registers_count}
use Rattle.base.specs.laws.Lists.{get-below}
use Rattle.base.specs.laws.Tests.{and-true}
use Rattle.device.specs.Device.{registers}
use Rattle.base.specs.Codes.{price_unfit, frames_too_short, record_unfit}
use Rattle.device.specs.Device.{device_in}
use Rattle.frames.specs.Numbers.{budget_most, stack_least, values_from}
use Rattle.frames.specs.Lines.{Line}
use Rattle.frames.specs.Machine.{State, Around, goes, act}
use Rattle.frames.specs.Parts.{Report, cost, finish, paused, run_for, run_frames, Part, one_part_lem}
use Rattle.frames.specs.Operations.{Record, Strips, Limits, Answer, unfit, fits, state_of, record_from, answer, around_of, part_from, refusal}
use Rattle.frames.proofs.laws.Turns.{Other, Within, SameLengths, Keeps, keeps, other, act-keeps, registers-normal}
use Rattle.frames.proofs.laws.Steps.{Priced, cost-some, Stepped, past, spent, went, halted, stepped, run_past, run-spent, run-went, run-halted}
use Rattle.framing.proofs.laws.Reaching.{frames-most}

-- WHAT A RUN LEAVES

-- within the strips, whose lengths are the same
pub record Left (A : Around) (s t : State) : Type 0 where
  pub within : Within A t
  pub lengths : SameLengths s t

module _ (A : Around) (π : ℕ → ℕ) where
  pub leaves : (f n b : ℕ) (s : State) → Within A s → Left A s (run_for A π f n b s).state
  unfolding run_for
  leaves zero n b s w = record { within = w; lengths = record { stack = refl; heap = refl; output = refl } }
  leaves (suc f) n b s w = by (stepped A π n b s) (λ c t v. leaves f (n + 1) c t v)
    where
      here : Left A s s
      here = record { within = w; lengths = record { stack = refl; heap = refl; output = refl } }

      on : (x : Line) (t : State) → act A x s ≡ goes t → Left A s t
      on x t q = from (act-keeps A s x) q
        where
          from : {u : _} → Keeps A s u → u ≡ goes t → Left A s t
          from (keeps {t = v} l k) q = let z : v ≡ t = cc in subst (Left A s) z (record { within = k w; lengths = l })
          from (other o) q = absurd (let z : ◌≡◌ {A = ℕ} 0 1 = cc in omega arith)

      by : Stepped A π n b s → ((c : ℕ) (t : State) → Within A t → Left A t (run_for A π f (n + 1) c t).state) → Left A s (run_for A π (suc f) n b s).state
      by (past e) i = rw (run_past A π n b s f e) here
      by (spent x e k) i = rw (run-spent A π n b s f x e k) here
      by (went x e k t q) i =
          let a = on x t q in
          let r = i (b - cost (π n) x) t a.within in
          rw (run-went A π n b s f x e k t q)
          (record {
            within = r.within;
            lengths = record {
              stack = r.lengths.stack ∙ a.lengths.stack;
              heap = r.lengths.heap ∙ a.lengths.heap;
              output = r.lengths.output ∙ a.lengths.output;
            };
          })
      by (halted x e k j q o) i = rw (run-halted A π n b s f x e k j q) here

  -- where a run paused a frame is due
  pub frame-due : (h : Priced π) (f n b : ℕ) (s : State) → b < f → (run_for A π f n b s).number ≡ budget_spent
      → (run_for A π f n b s).state.line < length A.lines
  frame-due h zero n b s l e = absurd (omega arith)
  frame-due h (suc f) n b s l e = by (stepped A π n b s) (λ c t k q. frame-due h f (n + 1) c t k q) e
    where
      by : Stepped A π n b s
          → ((c : ℕ) (t : State) → c < f → (run_for A π f (n + 1) c t).number ≡ budget_spent → (run_for A π f (n + 1) c t).state.line < length A.lines)
          → (run_for A π (suc f) n b s).number ≡ budget_spent → (run_for A π (suc f) n b s).state.line < length A.lines
      by (past e) i q =
          let z : 70 ≡ budget_spent = sym (ap (λ (r : Report). r.number) (run_past A π n b s f e)) ∙ q in absurd (omega (arith, z))
      by (spent x e k) i q = rw (run-spent A π n b s f x e k) (get-below A.lines s.line e)
      by (went x e k t r) i q =
          let c = cost-some (π n) x (h n) in
          let w = run-went A π n b s f x e k t r in
          rw w (i (b - cost (π n) x) t (omega arith) (sym (ap (λ (r : Report). r.number) w) ∙ q))
      by (halted x e k j r o) i q =
          let z : j ≡ budget_spent = sym (ap (λ (r : Report). r.number) (run-halted A π n b s f x e k j r)) ∙ q in
          absurd (different j o z)
        where
          different : (k : ℕ) → Other k → k ≡ budget_spent → ⊥
          different k o e = let z : eqb 50 50 ≡ false = ap (λ (y : ℕ). eqb y 50) (sym e) ∙ o in let y : ◌≡◌ {A = ℕ} 0 1 = cc in omega arith

-- ARGUMENTS THAT ARE FIT

-- refusals 2, 3, 62, 72 and 68 are not given
pub record FitFor (L : Limits) (m : Strips) : Type 0 where
  pub some-calls : 1 ≤ L.calls
  pub few-calls : L.calls ≤ 64
  pub heap : length m.heap ≤ 16384
  pub registers : length m.registers ≡ 16
  pub price : (L.price ≡ 1) ⊎ (L.price ≡ 10)
  pub stack : 140000 ≤ length m.stack

pub fit_none : (L : Limits) (m : Strips) → FitFor L m → unfit L m ≡ none
fit_none L m f =
    rw (zero-calls, le-ltb calls_most L.calls f.few-calls, le-ltb heap_most (length m.heap) f.heap, eq-eqb (length m.registers) registers_count f.registers, priced f.price, le-ltb (length m.stack) stack_least f.stack) refl
  where
    zero-calls : eqb L.calls 0 ≡ false
    zero-calls = by (eqb L.calls 0) refl
      where
        by : (b : Bool) → eqb L.calls 0 ≡ b → b ≡ false
        by true e = let z : L.calls ≡ 0 = eqb-true L.calls 0 e in absurd (omega (arith, z, f.some-calls))
        by false e = refl

    priced : (L.price ≡ 1) ⊎ (L.price ≡ 10) → (eqb L.price 1 || eqb L.price 10) ≡ true
    priced (inl e) = ap (λ (q : ℕ). eqb q 1 || eqb q 10) e
    priced (inr e) = ap (λ (q : ℕ). eqb q 1 || eqb q 10) e

pub fair-limits : {L : Limits} {m : Strips} → FitFor L m → 1 ≤ L.price
fair-limits {L} f = by f.price
  where
    by : (L.price ≡ 1) ⊎ (L.price ≡ 10) → 1 ≤ L.price
    by (inl e) = omega (arith, e)
    by (inr e) = omega (arith, e)

-- A PART THAT GOES ON

-- what a paused part answers
pub paused-answer : (r : Report) → r.number ≡ budget_spent
    → answer r ≡ record { number = r.number; position = r.position; frames = r.frames; words = r.state.words; printed = r.state.printed; pause = record_from r; strips = record { heap = r.state.heap; output = r.state.output; registers = r.state.registers; stack = r.state.stack } }
paused-answer r e = rw (eq-eqb r.number budget_spent e) refl

-- the state comes back from the record and the strips
pub same-state : (tape : List ℕ) (r : Report) → registers (device_in tape r.state.registers r.state.tape) ≡ r.state.registers
    → state_of tape (record_from r) (record { heap = r.state.heap; output = r.state.output; registers = r.state.registers; stack = r.state.stack }) ≡ r.state
same-state tape r e =
    let s = r.state in
    ap (λ (g : List ℕ). record { line = s.line; height = s.height; calls = s.calls; words = s.words; printed = s.printed; tape = s.tape; marks = s.marks; stack = s.stack; heap = s.heap; output = s.output; registers = g }) e

module _ (ls : List Line) (tape : List ℕ) (L : Limits) (r : Report) where
  abbrev strips : Strips
  strips = record { heap = r.state.heap; output = r.state.output; registers = r.state.registers; stack = r.state.stack }

  -- 71 is not given
  pub record-fits : Within (around_of ls tape L) r.state → r.state.line < length ls → r.frames + r.unspent + L.budget ≤ budget_most
      → fits ls tape L strips (record_from r) ≡ true
  record-fits w l b =
      rw (lt-ltb r.state.line (length ls) l, le-leb r.state.height (length r.state.stack - values_from) (omega (arith, w.height)), le-leb r.state.calls L.calls w.calls, le-leb r.state.words (length r.state.heap) w.words, le-leb r.state.printed (length r.state.output) w.printed, le-leb r.state.tape (length tape) w.tape, le-leb (r.frames + r.unspent + L.budget) budget_most b, le-leb r.state.marks 99 w.marks) refl

-- a record that fits says a state within the strips
pub fits-within : (ls : List Line) (tape : List ℕ) (L : Limits) (m : Strips) (r : Record) → FitFor L m → fits ls tape L m r ≡ true
    → Within (around_of ls tape L) (state_of tape r m)
fits-within ls tape L m r f e =
    let t = tests (ltb r.line (length ls)) (leb r.height (length m.stack - values_from)) (leb r.calls L.calls) (leb r.words (length m.heap)) (leb r.printed (length m.output)) (leb r.tape (length tape)) (leb (r.frames + r.unspent + L.budget) budget_most) (leb r.marks 99) e in
    record {
      height = omega (arith, leb-true r.height (length m.stack - values_from) t.0, f.stack);
      calls = leb-true r.calls L.calls t.1;
      words = leb-true r.words (length m.heap) t.2;
      printed = leb-true r.printed (length m.output) t.3;
      tape = leb-true r.tape (length tape) t.4;
      marks = leb-true r.marks 99 t.5;
      registers = registers-normal (device_in tape m.registers r.tape);
      sixteen = omega (arith, length-drop 3 m.registers, f.registers);
    }
  where
    tests : (a b c d e f g h : Bool) → (a && b && c && d && e && f && g && h) ≡ true
        → (b ≡ true) × (c ≡ true) × (d ≡ true) × (e ≡ true) × (f ≡ true) × (h ≡ true)
    tests a b c d e f g h q =
        let t₇ = and-true (a && b && c && d && e && f && g) h q in
        let t₆ = and-true (a && b && c && d && e && f) g t₇.0 in
        let t₅ = and-true (a && b && c && d && e) f t₆.0 in
        let t₄ = and-true (a && b && c && d) e t₅.0 in
        let t₃ = and-true (a && b && c) d t₄.0 in
        let t₂ = and-true (a && b) c t₃.0 in
        let t₁ = and-true a b t₂.0 in
        (t₁.1, t₂.1, t₃.1, t₄.1, t₅.1, t₇.1)
