-- Document 02, (xii) and (xiii), of written lessons: for every source that Check accepts, the frames that the writer writes never end in
-- 70, under any budgets and prices and however they are cut into parts; where neither they nor Run end in 50, both give the same number,
-- heap words, printed numbers and registers; and of a run of s steps that does not end in 50 they are at most 4 s + 1.
use Prim.Native.Nat.{ℕ, zero, suc, ◌+◌, ◌-◌, ◌*◌, ◌≤◌, ◌<◌, max}
use Rattle.std.proofs.Math.Nat.{mul-le-mul_left}
use native.Mathlib.Omega.{arith}
use Rattle.std.specs.Prelude.{Bool, ◌≢◌, ◌⊎◌, length, take, ℤ}
use Rattle.std.proofs.Math.Bool.{true, false}
use mathlib.Core.List.{List, [], ◌∷◌}
use Rattle.std.proofs.Common.{inl, inr, ◌∙◌, subst}
use Rattle.std.proofs.Math.Path.{◌≡◌, refl, sym, ap}
use Rattle.std.proofs.Math.Dec.{ltb, eqb}
use borrow.Author.Tests.{ltb-true, ltb-false}
use Rattle.base.specs.All.{All}
use Rattle.base.specs.Codes.{budget_spent}
use Rattle.base.specs.Outcome.{accepted}
use Rattle.device.specs.Device.{IsByte}
use Rattle.parser.specs.Tree.{Program}
use Rattle.typesystem.specs.Check.{checking}
use Rattle.semantics.specs.Limits as Limits
use Rattle.semantics.specs.Limits.{Limits, begun, ended, unfinished, run_with, run}
use Rattle.soundness.specs.Results.{Fault, by-null, by_index, by_size, by_register, by_byte, Finish, by-success, by-fault, ByLimit, by-budget, by-heap, by-calls, by-output, EndsWell}
use Rattle.acceptance.specs.Accepted.{allowed}
use Rattle.guarantees.proofs.Demand.{ends-well}
use Rattle.guarantees.proofs.laws.Literals.{accepted-literals}
use Rattle.codegen.specs.promises.Code.{at}
use Rattle.codegen.specs.promises.Compile.{compile}
use Rattle.codegen.proofs.laws.Layout.{compiled}
use Rattle.codegen.proofs.laws.Demand.{turns_of_code, same-on-turns}
use Rattle.codegen.proofs.laws.Heights.{code-start}
use Rattle.base.specs.Codes.{frame_fault}
use Rattle.frames.specs.Machine.{State, Around}
use Rattle.frames.specs.Parts.{Report, run_for, run_frames, Part, in_parts, prices_of, sum}
use Rattle.frames.proofs.laws.Turns.{Other}
use Rattle.frames.proofs.laws.Steps.{Priced}
use Rattle.framing.proofs.laws.Cuts.{Fair, fair-prices, most-prices, parts-are-one}
use Rattle.framing.proofs.laws.Following.{Tells, code_run, Follows, f-paused, f-ended, f-spent, follow}
use Rattle.framing.proofs.laws.Staging.{around_for, few-tokens, staged}
use Rattle.framing.proofs.laws.Reaching.{all-good, Fresh, fresh-sized, fresh_holds, frames-most, paused-late}

-- what the frames came to, and what Run reports
pub record SameEnd (R : Limits.Report) (r : Report) : Type 0 where
  pub position : ℕ
  pub ending : R.ending ≡ ended r.number position
  pub words : r.state.words ≡ R.words
  pub count : r.state.printed ≡ length R.printed
  pub printed : take r.state.printed r.state.output ≡ R.printed
  pub registers : r.state.registers ≡ R.registers

-- the number of an end
not-70 : {k : ℕ} → Finish k ⊎ ByLimit k → k ≢ frame_fault
not-70 (inl by-success) e = omega (arith, e)
not-70 (inl (by-fault by-null)) e = omega (arith, e)
not-70 (inl (by-fault by_index)) e = omega (arith, e)
not-70 (inl (by-fault by_size)) e = omega (arith, e)
not-70 (inl (by-fault by_register)) e = omega (arith, e)
not-70 (inl (by-fault by_byte)) e = omega (arith, e)
not-70 (inr by-budget) e = omega (arith, e)
not-70 (inr by-heap) e = omega (arith, e)
not-70 (inr by-calls) e = omega (arith, e)
not-70 (inr by-output) e = omega (arith, e)

module _ (s : List ℕ) (p : Program) (a : checking s ≡ accepted p) (tape : List ℕ) (B : All IsByte tape) (L : Limits) (calls : L.calls ≤ 64)
    (heap : L.heap ≤ 16384) (t : State) (f : Fresh L tape t) where
  abbrev A : Around
  A = around_for p tape L.calls

  -- the run of frames follows the code
  follows : (π : ℕ → ℕ) → Priced π → (b : ℕ) → Follows (compile p) L A (at 0 [] [] []) (begun tape) 0 (run_for A π (b + 1) 0 b t)
  follows π h b =
      let w = allowed s p a in
      let D = w.readable.derived in
      let few = few-tokens s w.stream w.readable.lexed in
      let T = w.typed in
      let F = accepted-literals s p a in
      follow (staged p D few T F L tape calls heap) (all-good p D few w.readable.shallow T F L calls tape B) π h (b + 1) 0 b (at 0 [] [] []) (begun tape) t
      (omega arith) code-start (fresh_holds p L tape t f) (fresh-sized p L tape t f)

  -- what the code machine reports when it is over
  over-is : {R : Limits.Report} (k : ℕ) → ((h : ℕ) → k ≤ h → code_run (compile p) L A h (at 0 [] [] []) (begun tape) ≡ R) → run p L tape ≡ R
  unfolding turns_of_code
  over-is k g =
      let w = allowed s p a in
      let n = max k (4 * (run p L tape).steps + 1) in
      sym (same-on-turns p (compile p) (compiled p) L tape w.typed (accepted-literals s p a) B n (omega arith)) ∙ g n (omega arith)

  -- Run did not end in 50, so the code machine did not either
  never-spent : {k q : ℕ} → (run p L tape).ending ≡ ended k q → k ≢ budget_spent → (n i : ℕ)
      → ((h : ℕ) → n ≤ h → (code_run (compile p) L A h (at 0 [] [] []) (begun tape)).ending ≡ ended budget_spent i) → ⊥
  unfolding turns_of_code
  never-spent {k} {q} e o n i g =
      let w = allowed s p a in
      let j = max n (4 * (run p L tape).steps + 1) in
      let z = same-on-turns p (compile p) (compiled p) L tape w.typed (accepted-literals s p a) B j (omega arith) in
      let y : ended k q ≡ ended budget_spent i = sym e ∙ ap (λ (R : Limits.Report). R.ending) (sym z) ∙ g j (omega arith) in
      o (cc)

  still-on : {k q : ℕ} → (run p L tape).ending ≡ ended k q → (n : ℕ) → 4 * (run p L tape).steps < n
      → (code_run (compile p) L A n (at 0 [] [] []) (begun tape)).ending ≡ unfinished → ⊥
  unfolding turns_of_code
  still-on {k} {q} e n l u =
      let w = allowed s p a in
      let z = same-on-turns p (compile p) (compiled p) L tape w.typed (accepted-literals s p a) B n l in
      let y : ended k q ≡ unfinished = sym e ∙ ap (λ (R : Limits.Report). R.ending) (sym z) ∙ u in
      let x : ◌≡◌ {A = ℕ} 0 1 = cc in
      omega arith

  module _ (π : ℕ → ℕ) (h : Priced π) (b : ℕ) where
    abbrev r : Report
    r = run_for A π (b + 1) 0 b t

    same_end : {k q : ℕ} → (run p L tape).ending ≡ ended k q → k ≢ budget_spent → r.number ≢ budget_spent → SameEnd (run p L tape) r
    same_end e o n = by (follows π h b)
      where
        by : Follows (compile p) L A (at 0 [] [] []) (begun tape) 0 (run_for A π (b + 1) 0 b t) → SameEnd (run p L tape) (run_for A π (b + 1) 0 b t)
        by (f-paused k d m x y z w l c v) = absurd (n c)
        by (f-ended k R g u T c v) =
            subst (λ (R : Limits.Report). SameEnd R (run_for A π (b + 1) 0 b t)) (sym (over-is k g))
            (record { position = T.position; ending = T.ending; words = sym T.words; count = T.count; printed = T.printed; registers = T.registers })
        by (f-spent k i g l c) = absurd (never-spent e o k i g)

    few-frames : {k q : ℕ} → (run p L tape).ending ≡ ended k q → k ≢ budget_spent → r.number ≢ budget_spent → r.frames ≤ 4 * (run p L tape).steps + 1
    few-frames e o n = by (follows π h b)
      where
        at_most : (k : ℕ) → ((h : ℕ) → h < k → (code_run (compile p) L A h (at 0 [] [] []) (begun tape)).ending ≡ unfinished) → (c : Bool)
            → ltb (4 * (run p L tape).steps + 1) k ≡ c → k ≤ 4 * (run p L tape).steps + 1
        at_most k u true q =
            let l : 4 * (run p L tape).steps + 1 < k = ltb-true _ _ q in
            absurd (still-on e (4 * (run p L tape).steps + 1) (omega arith) (u (4 * (run p L tape).steps + 1) l))
        at_most k u false q = ltb-false (4 * (run p L tape).steps + 1) k q

        by : Follows (compile p) L A (at 0 [] [] []) (begun tape) 0 (run_for A π (b + 1) 0 b t) → (run_for A π (b + 1) 0 b t).frames ≤ 4 * (run p L tape).steps + 1
        by (f-paused k d m x y z w l c v) = absurd (n c)
        by (f-ended k R g u T c v) = omega (arith, v, at_most k u (ltb (4 * (run p L tape).steps + 1) k) refl)
        by (f-spent k i g l c) = absurd (never-spent e o k i g)

    paid_for : {k q : ℕ} (c : ℕ) → 1 ≤ c → ((i : ℕ) → π i ≤ c) → (run p L tape).ending ≡ ended k q → k ≢ budget_spent
        → c * (4 * (run p L tape).steps + 1) ≤ b → r.number ≢ budget_spent
    unfolding run_with
    paid_for c one most e o enough z = by (follows π h b)
      where
        by : Follows (compile p) L A (at 0 [] [] []) (begun tape) 0 (run_for A π (b + 1) 0 b t) → ⊥
        by (f-paused k d m x y w u l v frames) =
            let late = paused-late A π h c most one (b + 1) 0 b t (omega arith) z in
            still-on e k (far (ltb (4 * (run p L tape).steps) k) refl late frames) (ap (λ (R : Limits.Report). R.ending) (y 0 k (omega arith)))
          where
            far : (f : Bool) → ltb (4 * (run p L tape).steps) k ≡ f → b + c * 0 < c * suc (run_for A π (b + 1) 0 b t).frames
                → (run_for A π (b + 1) 0 b t).frames ≡ 0 + k → 4 * (run p L tape).steps < k
            far true q late frames = ltb-true (4 * (run p L tape).steps) k q
            far false q late frames =
                let g : k ≤ 4 * (run p L tape).steps = ltb-false (4 * (run p L tape).steps) k q in
                let w : suc (run_for A π (b + 1) 0 b t).frames ≤ 4 * (run p L tape).steps + 1 = omega (arith, frames) in
                let m = mul-le-mul_left c w in
                absurd (omega (arith, late, m))
        by (f-ended k R g u T c v) = different (run_for A π (b + 1) 0 b t).number c z
          where
            different : (k : ℕ) → Other k → k ≡ budget_spent → ⊥
            different k o e = let z : eqb 50 50 ≡ false = ap (λ (y : ℕ). eqb y 50) (sym e) ∙ o in let y : ◌≡◌ {A = ℕ} 0 1 = cc in omega arith
        by (f-spent k i g l c) = never-spent e o k i g

-- the same limits with another budget of steps
abbrev with_budget : Limits → ℕ → Limits
with_budget L b = record { budget = b; calls = L.calls; heap = L.heap; printed = L.printed }

module _ (s : List ℕ) (p : Program) (a : checking s ≡ accepted p) (tape : List ℕ) (B : All IsByte tape) (L : Limits) (calls : L.calls ≤ 64)
    (heap : L.heap ≤ 16384) (t : State) (f : Fresh L tape t) where
  never-70-at : (π : ℕ → ℕ) → Priced π → (b : ℕ) → (run_for (A s p a tape B L calls heap t f) π (b + 1) 0 b t).number ≢ frame_fault
  never-70-at π h b =
      by (follows s p a tape B (with_budget L b) calls heap t
      (record {
        line = f.line;
        height = f.height;
        calls = f.calls;
        words = f.words;
        printed = f.printed;
        taken = f.taken;
        marks = f.marks;
        registers = f.registers;
        long = f.long;
        heap = f.heap;
        output = f.output;
      }) π h b)
    where
      A₀ : Around
      A₀ = around_for p tape L.calls

      by : Follows (compile p) (with_budget L b) (around_for p tape L.calls) (at 0 [] [] []) (begun tape) 0 (run_for (around_for p tape L.calls) π (b + 1) 0 b t)
          → (run_for (around_for p tape L.calls) π (b + 1) 0 b t).number ≢ frame_fault
      by (f-paused k d m x y z w l c v) e = omega (arith, c, e)
      by (f-ended k R g u T c v) e =
          let E = ends-well s p a (with_budget L b) tape B in
          let z = over-is s p a tape B (with_budget L b) calls heap t
          (record {
            line = f.line;
            height = f.height;
            calls = f.calls;
            words = f.words;
            printed = f.printed;
            taken = f.taken;
            marks = f.marks;
            registers = f.registers;
            long = f.long;
            heap = f.heap;
            output = f.output;
          }) k g in
          let y : ended E.number E.position ≡ ended (run_for (around_for p tape L.calls) π (b + 1) 0 b t).number T.position
          = sym E.is ∙ ap (λ (R : Limits.Report). R.ending) z ∙ T.ending in
          let x : E.number ≡ (run_for (around_for p tape L.calls) π (b + 1) 0 b t).number = cc in
          not-70 E.cause (x ∙ e)
      by (f-spent k i g l c) e = omega (arith, l, c, frames-most (around_for p tape L.calls) π h (b + 1) 0 b t (omega arith))

  -- THE THEOREMS: t is the state as a run of the lesson's frames begins, on any strips that are long enough (Fresh), q and qs are parts with
  -- any budgets and any prices that are not 0

  module _ (q : Part) (qs : List Part) (fair : Fair q) (all : All Fair qs) where
    abbrev ran : Report
    ran = in_parts (around_for p tape L.calls) q qs 0 0 t

    whole : in_parts (around_for p tape L.calls) q qs 0 0 t
        ≡ run_for (around_for p tape L.calls) (prices_of (around_for p tape L.calls) q qs 0 0 t) (q.budget + sum qs + 1) 0 (q.budget + sum qs) t
    unfolding run_frames
    whole =
        let z : 0 + (q.budget + sum qs) ≡ q.budget + sum qs = omega arith in
        parts-are-one (around_for p tape L.calls) q qs 0 0 t fair all
        ∙ ap (λ (b : ℕ). run_for (around_for p tape L.calls) (prices_of (around_for p tape L.calls) q qs 0 0 t) (b + 1) 0 b t) z

    prices : Priced (prices_of (around_for p tape L.calls) q qs 0 0 t)
    prices = fair-prices (around_for p tape L.calls) q qs 0 0 t fair all

    -- "70 ends no written lesson under any budget", however it is cut and priced
    pub never-70 : ran.number ≢ frame_fault
    never-70 = subst (λ (r : Report). r.number ≢ frame_fault) (sym whole) (never-70-at _ prices (q.budget + sum qs))

    -- "where neither run ends in 50, both give the same result number, printed numbers, heap words and registers"
    pub same-as-run : {k i : ℕ} → (run p L tape).ending ≡ ended k i → k ≢ budget_spent → ran.number ≢ budget_spent → SameEnd (run p L tape) ran
    same-as-run e o =
        subst (λ (r : Report). r.number ≢ budget_spent → SameEnd (run p L tape) r) (sym whole)
        (λ n. same_end s p a tape B L calls heap t f _ prices (q.budget + sum qs) e o n)

    -- at most 4 s + 1 frames, so "at most 64 times s plus 64 frames"
    pub frames-bounded : {k i : ℕ} → (run p L tape).ending ≡ ended k i → k ≢ budget_spent → ran.number ≢ budget_spent
        → (ran.frames ≤ 4 * (run p L tape).steps + 1) × (ran.frames ≤ 64 * (run p L tape).steps + 64)
    frames-bounded e o n =
        let l = subst (λ (r : Report). r.number ≢ budget_spent → r.frames ≤ 4 * (run p L tape).steps + 1) (sym whole)
        (λ n. few-frames s p a tape B L calls heap t f _ prices (q.budget + sum qs) e o n) n in
        (l, omega (arith, l))

    -- "and they too end otherwise than in 50 when their budget is that large"; "at price 10 the budget that (xii) asks for is ten times as
    -- large"
    pub ends-otherwise : (c : ℕ) → 1 ≤ c → q.price ≤ c → All (λ (q : Part). q.price ≤ c) qs → {k i : ℕ} → (run p L tape).ending ≡ ended k i
        → k ≢ budget_spent → c * (64 * (run p L tape).steps + 64) ≤ q.budget + sum qs → ran.number ≢ budget_spent
    ends-otherwise c one most mosts e o enough =
        let l : 4 * (run p L tape).steps + 1 ≤ 64 * (run p L tape).steps + 64 = omega arith in
        let m = mul-le-mul_left c l in
        subst (λ (r : Report). r.number ≢ budget_spent) (sym whole)
        (paid_for s p a tape B L calls heap t f _ prices (q.budget + sum qs) c one (most-prices (around_for p tape L.calls) c q qs 0 0 t most mosts) e o (omega (arith, m)))
