-- Demand 3, of Run: a lesson that document 01 allows never gets stuck, and larger limits change nothing of a run that ended by itself and
-- only add to what a stopped one printed. It holds of the machine (guarantees/Demand), and Run answers and shows what the machine's run
-- reports and prints (DemandLaws).
use Rattle.std.specs.Prelude.{ℕ, ◌*◌, ◌≤◌, ◌≡◌, ◌⊎◌, List, length, take, ℤ}
use Rattle.std.proofs.Common.{sym, ap, ◌∙◌, inl, inr}
use Rattle.std.proofs.Math.Option.{none}
use Rattle.base.specs.All.{All}
use Rattle.base.specs.Outcome.{accepted}
use Rattle.device.specs.Device.{IsByte}
use Rattle.parser.specs.Tree.{Program}
use Rattle.typesystem.specs.Check.{checking}
use Rattle.semantics.specs.Limits.{Limits, Report, run}
use Rattle.semantics.specs.Run.{RunAnswer, Strips, limits_of_lem, unfit, RunMeets, Runs}
use Rattle.soundness.specs.Results.{Finish, ByLimit, ◌⊑◌, Begins}
use Rattle.acceptance.specs.Accepted.{Allowed, allowed-accepted}
use Rattle.guarantees.proofs.Demand as Machine
use Rattle.runner.specs.laws.DemandLaws.{one_answer, ends_as, meets, shown-is, registers-are}

-- a call of Run for the lesson s with a tape, by its contract: fit arguments (no refusal 1, 2, 3 or 62), what was lent, the answer, and
-- what is there then
pub record RunCall (s tape : List ℕ) : Type 0 where
  pub budget : ℕ
  pub calls : ℕ
  pub before : Strips
  pub answer : RunAnswer
  pub after : Strips
  pub fit : unfit calls before ≡ none
  pub runs : Runs s budget calls tape before answer after

module _ {s tape : List ℕ} where
  -- "Its limits are the budget, the call limit and the lengths of the heap strip and the output strip"
  abbrev pub limits : RunCall s tape → Limits
  limits c = limits_of_lem c.budget c.calls c.before

  -- the printed numbers, which lead the output strip
  abbrev pub printed : RunCall s tape → List ℤ
  printed c = take c.answer.printed c.after.output

  -- how the first of two calls ends, and what that says of the second
  pub data Agree (c c' : RunCall s tape) : Type 0 where
    -- by itself, in 0, 40, 41, 42, 63 or 64: the second has the same answer (result, position, steps, climbs, heap words, printed count),
    -- numbers and register strip
    by_itself : Finish c.answer.number → c'.answer ≡ c.answer → printed c' ≡ printed c → c'.after.registers ≡ c.after.registers
        → Agree c c'
    -- a limit stops it, with 50, 51, 52 or 53: its printed numbers begin those of the second
    by-a-limit : ByLimit c.answer.number → Begins (printed c) (printed c') → Agree c c'

-- Two calls of Run for an allowed lesson with the same tape of bytes, the second under limits that are no smaller; what was lent may have
-- held anything before.
pub demand-3 : (s tape : List ℕ) (p : Program) → Allowed s p → All IsByte tape → (c c' : RunCall s tape) → limits c ⊑ limits c' → Agree c c'
demand-3 s tape p h bytes c c' larger = by (ends_as (Machine.ends-well s p found L tape bytes) (meets-run c).0)
  where
    found : checking s ≡ accepted p
    found = allowed-accepted s p h

    L : Limits
    L = limits c

    M : Limits
    M = limits c'

    meets-run : (c : RunCall s tape) → RunMeets (accepted p) c.budget c.calls tape c.before c.answer c.after
    meets-run c = meets p c.budget c.calls tape c.before c.answer c.after s found c.fit c.runs

    printed-is : (c : RunCall s tape) → printed c ≡ (run p (limits c) tape).printed
    printed-is c = shown-is p c.budget c.calls tape c.before c.answer c.after (meets-run c)

    strip-is : (c : RunCall s tape) → c.after.registers ≡ (run p (limits c) tape).registers
    strip-is c = registers-are p c.budget c.calls tape c.before c.answer c.after (meets-run c)

    by : Finish c.answer.number ⊎ ByLimit c.answer.number → Agree c c'
    by (inl f) =
        let e : run p M tape ≡ run p L tape =
        Machine.same_end p L M tape c.answer.number c.answer.position larger f (meets-run c).0.ending in
        by_itself f (one_answer e (meets-run c).0 (meets-run c').0)
        (printed-is c' ∙ ap (λ (r : Report). r.printed) e ∙ sym (printed-is c))
        (strip-is c' ∙ ap (λ (r : Report). r.registers) e ∙ sym (strip-is c))
    by (inr l) = by-a-limit l (rw (printed-is c, printed-is c') (Machine.printed-begins p L M tape larger))

-- Document 02, (vii): the total of climbs that Run reports is at most its steps times the number of classes in the table.
pub reported-climbs : (s tape : List ℕ) (p : Program) → Allowed s p → (c : RunCall s tape)
    → c.answer.climbs ≤ c.answer.steps * length p.classes
reported-climbs s tape p h c =
    let M = (meets p c.budget c.calls tape c.before c.answer c.after s (allowed-accepted s p h) c.fit c.runs).0 in
    rw (M.steps, M.climbs) (Machine.climbs-bounded p (limits c) tape)
