-- Document 02, (xi), of Run: what it answers and shows for a lesson it does for the lesson with classes appended, under equal limits and
-- with the same tape, whatever was lent held before. It holds of the machine (guarantees/Appended), and Run answers and shows what the
-- machine's run reports and prints (laws/DemandLaws).
use Rattle.std.specs.Prelude.{ℕ, ◌≡◌, List, ◌++◌}
use Rattle.std.proofs.Common.{sym, ap, ◌∙◌}
use Rattle.base.specs.All.{All}
use Rattle.base.specs.Outcome.{accepted}
use Rattle.device.specs.Device.{IsByte}
use Rattle.parser.specs.Tree.{Program}
use Rattle.semantics.specs.Limits.{Limits, Report, run}
use Rattle.semantics.specs.Run.{RunMeets}
use Rattle.acceptance.specs.Accepted.{Allowed, allowed-accepted}
use Rattle.guarantees.proofs.RunAppended.{run-appended}
use Rattle.runner.specs.Demand.{RunCall, limits, printed}
use Rattle.runner.specs.laws.DemandLaws.{one_answer, meets, shown-is, registers-are}

-- The same answer (result, position, steps, climbs, heap words, printed count), numbers and register strip.
pub calls-appended : (s t tape : List ℕ) (p q : Program) → Allowed s p → Allowed (s ++ t) q → All IsByte tape
    → (c : RunCall s tape) (c' : RunCall (s ++ t) tape) → limits c' ≡ limits c
    → (c'.answer ≡ c.answer) × (printed c' ≡ printed c) × (c'.after.registers ≡ c.after.registers)
calls-appended s t tape p q A B bytes c c' same = (
  one_answer e met.0 met'.0,
  numbers,
  registers-are q c'.budget c'.calls tape c'.before c'.answer c'.after met' ∙ ap (λ (r : Report). r.registers) e
      ∙ sym (registers-are p c.budget c.calls tape c.before c.answer c.after met),
)
  where
    e : run q (limits c') tape ≡ run p (limits c) tape
    e = run-appended s t p q A B tape bytes (limits c') ∙ ap (λ (L : Limits). run p L tape) same

    met : RunMeets (accepted p) c.budget c.calls tape c.before c.answer c.after
    met = meets p c.budget c.calls tape c.before c.answer c.after s (allowed-accepted s p A) c.fit c.runs

    met' : RunMeets (accepted q) c'.budget c'.calls tape c'.before c'.answer c'.after
    met' =
        meets q c'.budget c'.calls tape c'.before c'.answer c'.after (s ++ t) (allowed-accepted (s ++ t) q B) c'.fit
        c'.runs

    numbers : printed c' ≡ printed c
    numbers =
        shown-is q c'.budget c'.calls tape c'.before c'.answer c'.after met' ∙ ap (λ (r : Report). r.printed) e
        ∙ sym (shown-is p c.budget c.calls tape c.before c.answer c.after met)
