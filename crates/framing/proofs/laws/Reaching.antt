-- Every state that the code of an accepted source reaches is good, and the first one is held by the strips as a run begins. How many
-- frames a budget pays for.
use Rattle.std.specs.Prelude.{ℕ, zero, suc, ◌+◌, ◌-◌, ◌*◌, ◌≤◌, ◌<◌, Bool, true, false, List, [], ◌∷◌, ◌≢◌, ◌≡◌, length, drop, take, replicate, eqb, ℤ, pos}
use Rattle.std.proofs.Common.{mul-suc, arith, sym, ap₂, ◌∙◌, subst}
use Rattle.std.proofs.Math.Option.{Option, none, some}
use Rattle.std.proofs.Math.Path.{refl, ap}
use Rattle.std.proofs.Math.ListN.{get_elem?}
use Rattle.base.specs.All.{All, all_nil}
use Rattle.base.specs.Choice.{if◌then◌otherwise◌}
use Rattle.base.specs.Codes.{budget_spent, tokens_most}
use Rattle.base.specs.laws.Lists.{drop-none}
use Rattle.device.specs.Device.{Device, IsByte, reset, registers}
use Rattle.lexer.specs.Tokens.{Token}
use Rattle.parser.specs.Tree.{Program}
use Rattle.parser.specs.Measure.{program_deep}
use Rattle.parser.specs.Grammar.{DerivesProgram}
use Rattle.typesystem.specs.TypingRules.{ProgramTyped}
use Rattle.semantics.specs.Limits as Limits
use Rattle.semantics.specs.Limits.{Limits, Meters, begun, Ending, ended, went_wrong, Progress, next, stop, guard, run_with}
use Rattle.soundness.specs.laws.StateTyping.{LiteralsFit}
use Rattle.soundness.specs.laws.Reachable.{reach-bytes}
use Rattle.codegen.specs.promises.Code as Code
use Rattle.codegen.specs.promises.Code.{at, size_at, due}
use Rattle.codegen.specs.promises.Compile.{compile}
use Rattle.codegen.proofs.laws.Layout.{compiled}
use Rattle.codegen.proofs.laws.Demand.{turns_of_code, never_stuck}
use Rattle.codegen.proofs.laws.Heights.{CodeReach, code-start, code-next, passed}
use Rattle.refinement.specs.laws.Rooms.{program-keeps, code-kept}
use Rattle.device.specs.Device.{device_in}
use Rattle.frames.specs.Lines.{Line}
use Rattle.frames.specs.Machine.{State, Around, goes, ends, act}
use Rattle.frames.specs.Parts.{Report, cost, finish, paused, run_for}
use Rattle.frames.specs.Encode.{class_number}
use Rattle.frames.proofs.laws.Turns.{Other, Within, registers-normal}
use Rattle.frames.proofs.laws.Steps.{Priced, cost-some, Stepped, past, spent, went, halted, stepped, run_past, run-spent, run-went, run-halted}
use Rattle.framing.proofs.laws.Taking.{Holds}
use Rattle.framing.proofs.laws.Simulating.{Sized, read_back}
use Rattle.framing.proofs.laws.Following.{Good}
use Rattle.framing.proofs.laws.Staging.{around_for}

-- STATES THAT ARE REACHED

pub record From (P : Code.Code) (L : Limits) (tape : List ℕ) (d : Code.State) (m : Meters) : Type 0 where
  pub turns : ℕ
  pub runs : (g h : ℕ) → h ≡ turns + g → turns_of_code h P L tape ≡ run_with (due P) size_at L g d m

from_start : (P : Code.Code) (L : Limits) (tape : List ℕ) {d : Code.State} {m : Meters} → CodeReach P L tape d m → From P L tape d m
unfolding turns_of_code run_with
from_start P L tape code-start =
    record { turns = 0; runs = λ g h q. let z : h ≡ g = omega (arith, q) in ap (λ (k : ℕ). run_with (due P) size_at L k (at 0 [] [] []) (begun tape)) z }
from_start P L tape (code-next {d = d} {m = m} r e) =
    let f = from_start P L tape r in
    record { turns = suc f.turns; runs = λ g h q. f.runs (suc g) h (omega (arith, q)) ∙ ap (Limits.after size_at (λ c n. run_with (due P) size_at L g c n) d m) e }

module _ {ts : List Token} (p : Program) (D : DerivesProgram ts p) (few : length ts ≤ tokens_most) (deep : program_deep p ≡ none) (T : ProgramTyped p)
    (F : LiteralsFit p) (L : Limits) (small : L.calls ≤ 64) (tape : List ℕ) (B : All IsByte tape) where
  pub all-good : (d : Code.State) (m : Meters) → CodeReach (compile p) L tape d m → Good (compile p) L d m
  unfolding run_with
  all-good d m r =
      let k = code-kept p (compile p) (compiled p) L 1024 T F B deep (program-keeps 1024 D (omega arith)) r in
      let x = passed p (compile p) (compiled p) L tape T F B r in
      let f = from_start (compile p) L tape r in
      record {
        few = omega (arith, k);
        bytes = reach-bytes T F B x.reached;
        alive = λ e. never_stuck p (compile p) (compiled p) L tape T F B (f.turns + 1)
            (ap (λ (R : Limits.Report). R.ending) (f.runs 1 (f.turns + 1) refl ∙ ap (Limits.after size_at (λ c n. run_with (due (compile p)) size_at L 0 c n) d m) e));
      }

-- THE FIRST STATE

-- as a run begins, on strips that are long enough
pub record Fresh (L : Limits) (tape : List ℕ) (s : State) : Type 0 where
  pub line : s.line ≡ 0
  pub height : s.height ≡ 0
  pub calls : s.calls ≡ 0
  pub words : s.words ≡ 0
  pub printed : s.printed ≡ 0
  pub taken : s.tape ≡ 0
  pub marks : s.marks ≡ 0
  pub registers : s.registers ≡ registers (device_in tape (replicate 16 0) 0)
  pub long : 140000 ≤ length s.stack
  pub heap : length s.heap ≡ L.heap
  pub output : length s.output ≡ L.printed

first-device : (tape : List ℕ) → device_in tape (registers (device_in tape (replicate 16 0) 0)) 0 ≡ reset tape
first-device tape =
    read_back (device_in tape (replicate 16 0) 0) tape 0 refl
    ∙ ap (λ (t : List ℕ). record { arrived = false; lost = false; mask = 0; reading = 0; others = replicate 13 0; tape = t }) (sym (drop-none tape))

module _ (p : Program) (L : Limits) (tape : List ℕ) (s : State) (f : Fresh L tape s) where
  pub fresh-sized : Sized L (around_for p tape L.calls) s
  fresh-sized =
      record {
        within = record {
          height = omega (arith, f.height, f.long);
          calls = omega (arith, f.calls);
          words = omega (arith, f.words);
          printed = omega (arith, f.printed);
          tape = omega (arith, f.taken);
          marks = omega (arith, f.marks);
          registers = λ t n. ap (λ (r : List ℕ). registers (device_in t r n)) f.registers ∙ registers-normal (device_in tape (replicate 16 0) 0) t n ∙ sym f.registers;
          sixteen = ap length f.registers;
        };
        long = f.long;
        heap = f.heap;
        output = f.output;
      }

  pub fresh_holds : Holds (around_for p tape L.calls) (class_number (compile p).rows) 0 [] [] [] (begun tape) s
  fresh_holds =
      record {
        place = f.line;
        stack = record { height = f.height; values = tt; calls = f.calls; opens = tt; worded = all_nil; called = all_nil };
        heap = record { words = f.words; cells = λ j h. absurd (omega arith); fits = all_nil };
        meters = record {
          count = f.printed;
          shown = take-zero s.output;
          device = ap₂ (λ (r : List ℕ) (n : ℕ). device_in tape r n) f.registers f.taken ∙ first-device tape;
          hundredth = f.marks;
        };
      }
    where
      take-zero : (l : List ℤ) → take 0 l ≡ []
      take-zero [] = refl
      take-zero (x ∷ l) = refl

-- WHAT A BUDGET PAYS FOR

module _ (A : Around) (π : ℕ → ℕ) (h : Priced π) where
  -- frames and what is left come from the budget
  pub frames-most : (f n b : ℕ) (s : State) → b < f → (run_for A π f n b s).frames + (run_for A π f n b s).unspent ≤ n + b
  frames-most zero n b s l = absurd (omega arith)
  frames-most (suc f) n b s l = by (stepped A π n b s) (λ c t k. frames-most f (n + 1) c t k)
    where
      by : Stepped A π n b s → ((c : ℕ) (t : State) → c < f → (run_for A π f (n + 1) c t).frames + (run_for A π f (n + 1) c t).unspent ≤ n + 1 + c)
          → (run_for A π (suc f) n b s).frames + (run_for A π (suc f) n b s).unspent ≤ n + b
      by (past e) i = rw (run_past A π n b s f e) (omega arith)
      by (spent x e k) i = rw (run-spent A π n b s f x e k) (omega arith)
      by (went x e k t q) i = let c = cost-some (π n) x (h n) in rw (run-went A π n b s f x e k t q) (omega (arith, i (b - cost (π n) x) t (omega arith)))
      by (halted x e k j q o) i = let c = cost-some (π n) x (h n) in rw (run-halted A π n b s f x e k j q) (omega arith)

  -- a run that paused spent all but less than a price
  module _ (c : ℕ) (most : (i : ℕ) → π i ≤ c) (one : 1 ≤ c) where
    cost-most : (q : ℕ) (x : Line) → q ≤ c → cost q x ≤ c
    cost-most q x l = by (eqb x.code 18)
      where
        by : (b : Bool) → (if b then (λ _. q) otherwise λ _. 1) ≤ c
        by true = l
        by false = one

    pub paused-late : (f n b : ℕ) (s : State) → b < f → (run_for A π f n b s).number ≡ budget_spent → b + c * n < c * suc (run_for A π f n b s).frames
    paused-late zero n b s l e = absurd (omega arith)
    paused-late (suc f) n b s l e = by (stepped A π n b s) (λ d t k q. paused-late f (n + 1) d t k q) e
      where
        by : Stepped A π n b s
            → ((d : ℕ) (t : State) → d < f → (run_for A π f (n + 1) d t).number ≡ budget_spent → d + c * (n + 1) < c * suc (run_for A π f (n + 1) d t).frames)
            → (run_for A π (suc f) n b s).number ≡ budget_spent → b + c * n < c * suc (run_for A π (suc f) n b s).frames
        by (past e) i q =
            let z : 70 ≡ budget_spent = sym (ap (λ (r : Report). r.number) (run_past A π n b s f e)) ∙ q in absurd (omega (arith, z))
        by (spent x e k) i q = let y = cost-most (π n) x (most n) in rw (run-spent A π n b s f x e k) (omega (arith, mul-suc c n))
        by (went x e k t r) i q =
            let y = cost-most (π n) x (most n) in
            let y' = cost-some (π n) x (h n) in
            let w = run-went A π n b s f x e k t r in
            let j = i (b - cost (π n) x) t (omega arith) (sym (ap (λ (r : Report). r.number) w) ∙ q) in
            let z : c * (n + 1) ≡ c * n + c = ap (λ (k : ℕ). c * k) (let u : n + 1 ≡ suc n = omega arith in u) ∙ mul-suc c n in
            rw w (omega (arith, j, z))
        by (halted x e k j r o) i q =
            let z : j ≡ budget_spent = sym (ap (λ (r : Report). r.number) (run-halted A π n b s f x e k j r)) ∙ q in
            absurd (different j o z)
          where
            different : (k : ℕ) → Other k → k ≡ budget_spent → ⊥
            different k o e = let z : eqb 50 50 ≡ false = ap (λ (y : ℕ). eqb y 50) (sym e) ∙ o in let y : ◌≡◌ {A = ℕ} 0 1 = cc in omega arith
