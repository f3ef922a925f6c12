-- A run of frames follows a run of the code machine, turn by turn.
use Prim.Native.Nat.{ℕ, zero, suc, ◌+◌, ◌-◌, ◌*◌, ◌%◌, ◌^◌, ◌≤◌, ◌<◌}
use Rattle.std.proofs.Common.{arith, sym, ◌∙◌}
use Rattle.std.specs.Prelude.{Bool, true, false, List, [], ◌∷◌, ◌≢◌, ◌≡◌, length, take, ltb, leb, ℤ}
use Rattle.std.proofs.Math.Option.{Option, none, some}
use Rattle.std.proofs.Math.Path.{refl, ap, subst}
use Rattle.std.proofs.Math.ListN.{get_elem?}
use Rattle.base.specs.Choice.{if◌then◌otherwise◌, option}
use Rattle.base.specs.Codes.{budget_spent}
use Rattle.base.specs.laws.Lists.{get-below}
use Rattle.device.specs.Device.{registers}
use Rattle.device.specs.laws.ByteLaws.{HoldsBytes}
use Rattle.semantics.specs.Machine.{Value, Cell, Request, Request.charge, Request.allocate, Request.enter, Request.output, Request.receive, Request.send, Request.move, Request.fault, Request.done, Request.stuck, need}
use Rattle.typing.specs.laws.Choices.{none-some}
use Rattle.semantics.specs.Limits as Limits
use Rattle.semantics.specs.Limits.{Limits, Meters, Ending, ended, went_wrong, unfinished, Progress, next, stop, within, guard, report, run_with}
use Rattle.codegen.specs.promises.Code as Code
use Rattle.codegen.specs.promises.Code.{Instruction, Open, at, size_at, due}
use Rattle.codegen.proofs.laws.Simulation.{values_at}
use Rattle.codegen.proofs.laws.Heights.{CodeReach, code-start, code-next}
use Rattle.device.specs.Device.{device_in}
use Rattle.frames.specs.Lines.{Line}
use Rattle.frames.specs.Machine.{State, Around, Turn, goes, ends, act}
use Rattle.frames.specs.Parts.{Report, cost, finish, paused, run_for}
use Rattle.frames.specs.Encode.{class_number, frame_of}
use Rattle.frames.proofs.laws.Turns.{Other, Keeps, keeps, other, act-keeps}
use Rattle.frames.proofs.laws.Steps.{Priced, cost-some, Stepped, past, spent, went, halted, stepped, run_past, run-spent, run-went, run-halted}
use Rattle.framing.proofs.laws.Cuts.{frames-grow}
use Rattle.framing.proofs.laws.Taking.{reduced, Holds, Meets, m-goes, m-ends, m-spent, m-stuck}
use Rattle.framing.proofs.laws.Simulating.{Stage, Sized}
use Rattle.framing.proofs.laws.Calling.{acts}

-- what holds of every state that the code machine reaches
pub record Good (P : Code.Code) (L : Limits) (d : Code.State) (m : Meters) : Type 0 where
  pub few : length (values_at d) ≤ 66560
  pub bytes : HoldsBytes m.device
  pub alive : guard L m (due P d) ≢ stop went_wrong

-- a turn charges at most one step
abbrev Next : Meters → {C : Type 0} → Progress C → Type 0
Next m (next c n) = n.steps ≤ m.steps + 1
Next m (stop e) = Unit {0}

within-one : {C : Type 0} (m : Meters) (b : Bool) (k p : ℕ) (c : C) (n : Meters) → n.steps ≤ m.steps + 1 → Next m (within b k p λ _. next c n)
within-one m true k p c n h = h
within-one m false k p c n h = tt

one-step : {C : Type 0} (L : Limits) (m : Meters) (r : Request C) → Next m (guard L m r)
unfolding guard
one-step L m (charge p c) = within-one m (ltb m.steps L.budget) _ p c _ (omega arith)
one-step L m (allocate p n c) = within-one m (leb n L.heap) _ p (c tt) m (omega arith)
one-step L m (enter p n k c) = within-one m (leb n L.calls) _ p c _ (omega arith)
one-step L m (output p z c) = within-one m (ltb (length m.printed) L.printed) _ p c _ (omega arith)
one-step L m (receive n c) = omega arith
one-step L m (send n b c) = omega arith
one-step L m (move c) = omega arith
one-step L m (fault k p) = tt
one-step L m done = tt
one-step L m stuck = tt

abbrev pub Held : Code.Code → Around → Code.State → Meters → State → Type 0
Held P A (at i vs ds h) m s = Holds A (class_number P.rows) i vs ds h m s

-- the code machine's report says the same as the state in which frames ended
pub record Tells (R : Limits.Report) (r : Report) : Type 0 where
  pub position : ℕ
  pub ending : R.ending ≡ ended r.number position
  pub words : R.words ≡ r.state.words
  pub count : r.state.printed ≡ length R.printed
  pub printed : take r.state.printed r.state.output ≡ R.printed
  pub registers : r.state.registers ≡ R.registers

module _ (P : Code.Code) (L : Limits) (A : Around) where
  abbrev pub code_run : ℕ → Code.State → Meters → Limits.Report
  code_run g d m = run_with (due P) size_at L g d m

  pub data Follows (d : Code.State) (m : Meters) (n : ℕ) (r : Report) : Type 0 where
    -- both have come to a state
    f-paused : (k : ℕ) (d' : Code.State) (m' : Meters) → CodeReach P L A.tape d' m'
        → ((g h : ℕ) → h ≡ k + g → code_run h d m ≡ code_run g d' m') → Held P A d' m' r.state → Sized L A r.state
        → m'.steps ≤ m.steps + k → r.number ≡ budget_spent → r.frames ≡ n + k → Follows d m n r
    -- both have ended
    f-ended : (k : ℕ) (R : Limits.Report) → ((h : ℕ) → k ≤ h → code_run h d m ≡ R) → ((h : ℕ) → h < k → (code_run h d m).ending ≡ unfinished)
        → Tells R r → Other r.number
        → r.frames ≡ n + k → Follows d m n r
    -- the code machine had no step left
    f-spent : (k p : ℕ) → ((h : ℕ) → k ≤ h → (code_run h d m).ending ≡ ended budget_spent p) → L.budget < m.steps + k → n + k ≤ r.frames
        → Follows d m n r

module _ {P : Code.Code} {L : Limits} {A : Around} (S : Stage P L A) (good : (d : Code.State) (m : Meters) → CodeReach P L A.tape d m → Good P L d m)
    (π : ℕ → ℕ) (fair : Priced π) where
  -- the frame of a state, and what it and the code machine do
  pub record Turned (d : Code.State) (m : Meters) (s : State) : Type 0 where
    pub x : Line
    pub there : get_elem? A.lines s.line ≡ some x
    pub meets : Meets A (class_number P.rows) (L.budget ≤ m.steps) (guard L m (due P d)) (act A x s)

  turned : (d : Code.State) (m : Meters) (s : State) → CodeReach P L A.tape d m → Held P A d m s → Sized L A s → Turned d m s
  unfolding due guard
  turned (at i vs ds h) m s r H Z = by (get_elem? P.instructions i) refl
    where
      by : (o : Option Instruction) → get_elem? P.instructions i ≡ o → Turned (at i vs ds h) m s
      by none e = absurd ((good (at i vs ds h) m r).alive (ap (λ (o : Option Instruction). guard L m (need o λ x. Code.act P.rows x i vs ds h)) e))
      by (some x) e =
          let G = good (at i vs ds h) m r in
          let b = get-below P.instructions i e in
          record {
            x = reduced (frame_of P x);
            there = ap (get_elem? A.lines) H.place ∙ S.lines i x e;
            meets = subst (λ (o : Option Instruction). Meets A (class_number P.rows) (L.budget ≤ m.steps) (guard L m (need o λ x. Code.act P.rows x i vs ds h)) (act A (reduced (frame_of P x)) s)) (sym e)
                (acts S s Z i vs ds h m H G.few G.bytes x (S.fitting i x e) (omega (arith, b, S.few-places)));
          }

  -- one turn of both, and what follows
  onward : {d e : Code.State} {m m' : Meters} {n : ℕ} {r : Report} → guard L m (due P d) ≡ next e m' → m'.steps ≤ m.steps + 1
      → Follows P L A e m' (n + 1) r → Follows P L A d m n r
  unfolding run_with
  onward {d} {e} {m} {m'} {n} {r} q l (f-paused k d'' m'' a b c z t u v) =
      f-paused (suc k) d'' m'' a step c z (omega arith) u (omega arith)
    where
      step : (g h : ℕ) → h ≡ suc k + g → code_run P L A h d m ≡ code_run P L A g d'' m''
      step g zero y = absurd (omega (arith, y))
      step g (suc h) y = ap (Limits.after size_at (code_run P L A h) d m) q ∙ b g h (omega (arith, y))
  onward {d} {e} {m} {m'} {n} {r} q l (f-ended k R a w b c v) = f-ended (suc k) R step before b c (omega arith)
    where
      before : (h : ℕ) → h < suc k → (code_run P L A h d m).ending ≡ unfinished
      before zero y = refl
      before (suc h) y = ap (λ (x : Limits.Report). x.ending) (ap (Limits.after size_at (code_run P L A h) d m) q) ∙ w h (omega arith)

      step : (h : ℕ) → suc k ≤ h → code_run P L A h d m ≡ R
      step zero y = absurd (omega arith)
      step (suc h) y = ap (Limits.after size_at (code_run P L A h) d m) q ∙ a h (omega arith)
  onward {d} {e} {m} {m'} {n} {r} q l (f-spent k p a b c) = f-spent (suc k) p step (omega arith) (omega arith)
    where
      step : (h : ℕ) → suc k ≤ h → (code_run P L A h d m).ending ≡ ended budget_spent p
      step zero y = absurd (omega arith)
      step (suc h) y = ap (λ (x : Limits.Report). x.ending) (ap (Limits.after size_at (code_run P L A h) d m) q) ∙ a h (omega arith)

  sized_on : (s t : State) (x : Line) → act A x s ≡ goes t → Sized L A s → Sized L A t
  sized_on s t x e Z = by (act A x s) e (act-keeps A s x)
    where
      by : (u : Turn) → u ≡ goes t → Keeps A s u → Sized L A t
      by (goes v) q (keeps l w) =
          let z : v ≡ t = cc in
          subst (Sized L A) z (record { within = w Z.within; long = omega (arith, l.stack, Z.long); heap = l.heap ∙ Z.heap; output = l.output ∙ Z.output })
      by (ends k) q (other o) = absurd (let z : ◌≡◌ {A = ℕ} 0 1 = cc in omega arith)

  -- what the state holds is what the code machine reports
  told : (i : ℕ) (vs : List Value) (ds : List Open) (h : List Cell) (m : Meters) (s : State) (k p n : ℕ)
      → Holds A (class_number P.rows) i vs ds h m s → Sized L A s → Tells (report (ended k p) (length h) m) (finish k n s)
  told i vs ds h m s k p n H Z =
      record {
        position = p;
        ending = refl;
        words = sym H.heap.words;
        count = H.meters.count;
        printed = ap (λ (j : ℕ). take j s.output) H.meters.count ∙ H.meters.shown;
        registers = sym (Z.within.registers A.tape s.tape) ∙ ap registers H.meters.device;
      }

  some_same : {x y : Line} {o : Option Line} → o ≡ some x → o ≡ some y → x ≡ y
  some_same a b = cc

  pub follow : (f n b : ℕ) (d : Code.State) (m : Meters) (s : State) → b < f → CodeReach P L A.tape d m → Held P A d m s → Sized L A s
      → Follows P L A d m n (run_for A π f n b s)
  unfolding run_with
  follow zero n b d m s l r H Z = absurd (omega arith)
  follow (suc f) n b (at i vs ds h) m s l r H Z = by (stepped A π n b s) (turned d m s r H Z) (λ c e m' t k q a y. follow f (n + 1) c e m' t k q a y)
    where
      d : Code.State
      d = at i vs ds h

      Then : Type 0
      Then = (c : ℕ) (e : Code.State) (m' : Meters) (t : State) → c < f → CodeReach P L A.tape e m' → Held P A e m' t → Sized L A t
          → Follows P L A e m' (n + 1) (run_for A π f (n + 1) c t)

      going : (t : State) (c : ℕ) → c < f → Sized L A t → Then → (G : Progress Code.State) → guard L m (due P (at i vs ds h)) ≡ G
          → Meets A (class_number P.rows) (L.budget ≤ m.steps) G (goes t) → Follows P L A (at i vs ds h) m n (run_for A π f (n + 1) c t)
      going t c k y F G q (m-goes {i = j} {vs = ws} {ds = es} {h = g} {m = m'} a) =
          onward q (subst (Next m) q (one-step L m (due P (at i vs ds h)))) (F c (at j ws es g) m' t k (code-next r q) a y)
      going t c k y F G q (m-spent {p = p} e) = f-spent 1 p ran (omega arith) (frames-grow A π fair f (n + 1) c t)
        where
          ran : (h' : ℕ) → 1 ≤ h' → (code_run P L A h' (at i vs ds h) m).ending ≡ ended budget_spent p
          ran zero z = absurd (omega arith)
          ran (suc h') z = ap (λ (x : Limits.Report). x.ending) (ap (Limits.after size_at (code_run P L A h') (at i vs ds h) m) q)
      going t c k y F G q m-stuck = absurd ((good (at i vs ds h) m r).alive q)

      ending : (k : ℕ) → Other k → (G : Progress Code.State) → guard L m (due P (at i vs ds h)) ≡ G
          → Meets A (class_number P.rows) (L.budget ≤ m.steps) G (ends k) → Follows P L A (at i vs ds h) m n (finish k (n + 1) s)
      ending k o G q (m-ends {p = p}) = f-ended 1 (report (ended k p) (length h) m) ran before (told i vs ds h m s k p (n + 1) H Z) o refl
        where
          before : (h' : ℕ) → h' < 1 → (code_run P L A h' (at i vs ds h) m).ending ≡ unfinished
          before zero z = refl
          before (suc h') z = absurd (omega arith)

          ran : (h' : ℕ) → 1 ≤ h' → code_run P L A h' (at i vs ds h) m ≡ report (ended k p) (length h) m
          ran zero z = absurd (omega arith)
          ran (suc h') z = ap (Limits.after size_at (code_run P L A h') (at i vs ds h) m) q
      ending k o G q (m-spent {p = p} e) = f-spent 1 p ran (omega arith) (omega arith)
        where
          ran : (h' : ℕ) → 1 ≤ h' → (code_run P L A h' (at i vs ds h) m).ending ≡ ended budget_spent p
          ran zero z = absurd (omega arith)
          ran (suc h') z = ap (λ (x : Limits.Report). x.ending) (ap (Limits.after size_at (code_run P L A h') (at i vs ds h) m) q)
      ending k o G q m-stuck = absurd ((good (at i vs ds h) m r).alive q)

      meets_at : (x : Line) → get_elem? A.lines s.line ≡ some x → Turned (at i vs ds h) m s → (u : Turn) → act A x s ≡ u
          → Meets A (class_number P.rows) (L.budget ≤ m.steps) (guard L m (due P (at i vs ds h))) u
      meets_at x e T u q = subst (Meets A (class_number P.rows) (L.budget ≤ m.steps) (guard L m (due P (at i vs ds h)))) (ap (λ (y : Line). act A y s) (some_same T.there e) ∙ q) T.meets

      by : Stepped A π n b s → Turned (at i vs ds h) m s → Then → Follows P L A (at i vs ds h) m n (run_for A π (suc f) n b s)
      by (past e) T F = absurd (none-some e T.there)
      by (spent x e k) T F =
          subst (Follows P L A (at i vs ds h) m n) (sym (run-spent A π n b s f x e k))
          (f-paused 0 (at i vs ds h) m r (λ g h' q. let z : h' ≡ g = omega (arith, q) in ap (λ (y : ℕ). code_run P L A y (at i vs ds h) m) z) H Z (omega arith) refl (omega arith))
      by (went x e k t q) T F =
          let c = cost-some (π n) x (fair n) in
          subst (Follows P L A (at i vs ds h) m n) (sym (run-went A π n b s f x e k t q))
          (going t (b - cost (π n) x) (omega arith) (sized_on s t x q Z) F (guard L m (due P (at i vs ds h))) refl (meets_at x e T (goes t) q))
      by (halted x e k j q o) T F =
          subst (Follows P L A (at i vs ds h) m n) (sym (run-halted A π n b s f x e k j q))
          (ending j o (guard L m (due P (at i vs ds h))) refl (meets_at x e T (ends j) q))
