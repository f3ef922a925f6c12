-- Document 02, (xii) and (xiii), of written lessons, as the operations answer: for every source that Check accepts, what the writer writes
-- of it, every tape of bytes, every call limit and all strips that the runner does not refuse, and every list of budgets and prices.
use Rattle.std.specs.Prelude.{ℕ, ◌+◌, ◌-◌, ◌*◌, ◌≤◌, List, ◌++◌, ◌≢◌, ◌≡◌, refl, length, take, drop, pos}
use Rattle.std.proofs.Common.{arith, inl, inr, sym, subst, le-ltb}
use Rattle.std.proofs.lemmas.List.{length-replicate}
use Rattle.base.specs.All.{All, all_nil, all_cons}
use Rattle.base.specs.Codes.{success, budget_spent, table_least}
use Rattle.base.specs.Outcome.{accepted}
use Rattle.device.specs.Device.{IsByte}
use Rattle.parser.specs.Tree.{Program}
use Rattle.typesystem.specs.Check.{checking}
use Rattle.semantics.specs.Limits as Run
use Rattle.codegen.specs.promises.Compile.{compile}
use Rattle.base.specs.Codes.{frame_fault}
use Rattle.frames.specs.Numbers.{budget_most}
use Rattle.frames.specs.Lines.{lines}
use Rattle.frames.specs.Machine.{State}
use Rattle.frames.specs.Parts.{Report, Part, in_parts, sum}
use Rattle.frames.specs.Encode.{frames_of}
use Rattle.frames.specs.Operations.{no_record_lem, Strips, Answer, frames_text, encode, state_of, cleared, answer}
use Rattle.framing.proofs.laws.Texts.{read_back}
use Rattle.framing.proofs.laws.Staging.{lines_of, around_for}
use Rattle.framing.proofs.laws.Reaching.{Fresh}
use Rattle.framing.proofs.laws.Operating.{FitFor}
use Rattle.framing.proofs.Paused.{limits_for, Priced10, in_turn, priced-fair, all_fair, turns-answer}
use Rattle.framing.proofs.Written.{never-70, same-as-run, frames-bounded, ends-otherwise}

-- what the writer writes reads as the lines of the program
pub text-lines : (p : Program) → lines (frames_text p) ≡ accepted (lines_of p)
unfolding frames_text
text-lines p = read_back (frames_of (compile p))

-- the writer writes it, where the work table and the strip are long enough
pub writes : (s : List ℕ) (p : Program) → checking s ≡ accepted p → (table : ℕ) (before : List ℕ) → table_least ≤ table
    → length (frames_text p) ≤ length before
    → encode s table before
    ≡ record {
      answer = record { number = success; position = 0; count = length (frames_text p) };
      strip = frames_text p ++ drop (length (frames_text p)) before;
    }
unfolding encode
writes s p a table before l m = rw (le-ltb table table_least l, a, le-ltb (length before) (length (frames_text p)) m) refl

-- "both give the same result number, printed numbers, heap words and registers"
pub record SameAnswer (R : Run.Report) (x : Answer) : Type 0 where
  pub position : ℕ
  pub ending : R.ending ≡ Run.ended x.number position
  pub words : x.words ≡ R.words
  pub count : x.printed ≡ length R.printed
  pub printed : take x.printed x.strips.output ≡ R.printed
  pub registers : x.strips.registers ≡ R.registers

module _ (s : List ℕ) (p : Program) (a : checking s ≡ accepted p) (tape : List ℕ) (bytes : All IsByte tape) (c : ℕ) (m : Strips) (q : Part) (qs : List Part)
    (fit : FitFor (limits_for c q) m) (prices : All Priced10 qs) (small : q.budget + sum qs ≤ budget_most) where
  -- the parts, one after another
  abbrev pub lesson : Answer
  lesson = in_turn (frames_text p) tape c q qs m

  -- Run's limits: "equal tape and limits but the budget"
  abbrev pub limits : (budget : ℕ) → Run.Limits
  limits b = record { budget = b; calls = c; heap = length m.heap; printed = length m.output }

  first : State
  first = state_of tape no_record_lem (cleared m)

  fresh : (b : ℕ) → Fresh (limits b) tape (state_of tape no_record_lem (cleared m))
  fresh b =
      record {
        line = refl;
        height = refl;
        calls = refl;
        words = refl;
        printed = refl;
        taken = refl;
        marks = refl;
        registers = refl;
        long = omega (arith, fit.stack, length-replicate {A = ℕ} (length m.stack) 0);
        heap = length-replicate (length m.heap) (pos 0);
        output = refl;
      }

  is : in_turn (frames_text p) tape c q qs m ≡ answer (in_parts (around_for p tape c) q qs 0 0 (state_of tape no_record_lem (cleared m)))
  is = turns-answer (frames_text p) tape (lines_of p) (text-lines p) c fit.some-calls fit.few-calls q qs m fit prices small

  -- "70 ends no written lesson under any budget"
  pub no-70 : lesson.number ≢ frame_fault
  no-70 =
      subst (λ (x : Answer). x.number ≢ frame_fault) (sym is)
      (never-70 s p a tape bytes (limits 0) fit.few-calls fit.heap (state_of tape no_record_lem (cleared m)) (fresh 0) q qs (priced-fair q fit.price) (all_fair prices))

  module _ (b : ℕ) {k i : ℕ} (e : (Run.run p (limits b) tape).ending ≡ Run.ended k i) (o : k ≢ budget_spent) where
    -- "where neither run ends in 50"
    pub same_answer : lesson.number ≢ budget_spent → SameAnswer (Run.run p (limits b) tape) lesson
    same_answer =
        subst (λ (x : Answer). x.number ≢ budget_spent → SameAnswer (Run.run p (limits b) tape) x) (sym is)
        (λ n. let E = same-as-run s p a tape bytes (limits b) fit.few-calls fit.heap (state_of tape no_record_lem (cleared m)) (fresh b) q qs (priced-fair q fit.price) (all_fair prices) e o n in
        record { position = E.position; ending = E.ending; words = E.words; count = E.count; printed = E.printed; registers = E.registers })

    -- "A run of s steps that does not end in 50 takes its frames at most 64 times s plus 64 frames"; at most 4 s + 1, in truth
    pub few-frames : lesson.number ≢ budget_spent
        → (lesson.frames ≤ 4 * (Run.run p (limits b) tape).steps + 1) × (lesson.frames ≤ 64 * (Run.run p (limits b) tape).steps + 64)
    few-frames =
        subst (λ (x : Answer). x.number ≢ budget_spent → (x.frames ≤ 4 * (Run.run p (limits b) tape).steps + 1) × (x.frames ≤ 64 * (Run.run p (limits b) tape).steps + 64)) (sym is)
        (λ n. frames-bounded s p a tape bytes (limits b) fit.few-calls fit.heap (state_of tape no_record_lem (cleared m)) (fresh b) q qs (priced-fair q fit.price) (all_fair prices) e o n)

    ends : (d : ℕ) → 1 ≤ d → q.price ≤ d → All (λ (q : Part). q.price ≤ d) qs → d * (64 * (Run.run p (limits b) tape).steps + 64) ≤ q.budget + sum qs
        → lesson.number ≢ budget_spent
    ends d one most mosts l =
        subst (λ (x : Answer). x.number ≢ budget_spent) (sym is)
        (ends-otherwise s p a tape bytes (limits b) fit.few-calls fit.heap (state_of tape no_record_lem (cleared m)) (fresh b) q qs (priced-fair q fit.price) (all_fair prices) d one most mosts e o l)

    -- "and they too end otherwise than in 50 when their budget is that large": at price 1
    pub paid-at-1 : q.price ≡ 1 → All (λ (q : Part). q.price ≡ 1) qs → 64 * (Run.run p (limits b) tape).steps + 64 ≤ q.budget + sum qs
        → lesson.number ≢ budget_spent
    paid-at-1 one ones l = ends 1 (omega arith) (omega (arith, one)) (at_most ones) (omega arith)
      where
        at_most : {qs : List Part} → All (λ (q : Part). q.price ≡ 1) qs → All (λ (q : Part). q.price ≤ 1) qs
        at_most all_nil = all_nil
        at_most (all_cons {x = q} h hs) = all_cons {x = q} (omega (arith, h)) (at_most hs)

    -- "at price 10 the budget that (xii) asks for is ten times as large"; and so it is where the price changes
    pub paid-at-10 : 10 * (64 * (Run.run p (limits b) tape).steps + 64) ≤ q.budget + sum qs → lesson.number ≢ budget_spent
    paid-at-10 l = ends 10 (omega arith) (ten q fit.price) (at_most prices) l
      where
        ten : (q : Part) → Priced10 q → q.price ≤ 10
        ten q (inl e) = omega (arith, e)
        ten q (inr e) = omega (arith, e)

        at_most : {qs : List Part} → All Priced10 qs → All (λ (q : Part). q.price ≤ 10) qs
        at_most all_nil = all_nil
        at_most (all_cons {x = q} h hs) = all_cons {x = q} (ten q h) (at_most hs)
