-- Demand 3 for every source that Check accepts: it never gets stuck, under any limits, and larger limits change nothing. It holds since an
-- accepted source is typed (acceptance/Accepted) and the literals of a typed program are words, so that every state of its run is typed.
use Rattle.std.specs.Prelude.{ℕ, ◌*◌, ◌≤◌, ◌≡◌, List, ◌≢◌, length}
use Rattle.std.proofs.Common.{subst}
use Rattle.base.specs.All.{All}
use Rattle.base.specs.Outcome.{accepted}
use Rattle.device.specs.Device.{IsByte}
use Rattle.parser.specs.Tree.{Program}
use Rattle.typesystem.specs.Check.{checking}
use Rattle.semantics.specs.Limits.{Limits, ended, went_wrong, unfinished, run}
use Rattle.soundness.specs.Results.{Finish, EndsWell, ◌⊑◌, Begins}
use Rattle.soundness.specs.Portless.{Portless, SameButRegisters}
use Rattle.soundness.specs.laws.PortLaws.{never-asked}
use Rattle.soundness.specs.laws.ResultLaws.{Over}
use Rattle.soundness.specs.laws.Ending.{run_ends}
use Rattle.soundness.specs.laws.LargerLimits.{run-agrees, agree_same, agree-begins}
use Rattle.soundness.specs.laws.Climbing.{run-climbs}
use Rattle.soundness.specs.laws.Soundness.{NotWrong, run-right, run-ends-well}
use Rattle.acceptance.specs.Accepted.{allowed}
use Rattle.guarantees.proofs.laws.Literals.{accepted-literals}

module _ (s : List ℕ) (p : Program) (a : checking s ≡ accepted p) where
  -- An accepted lesson never gets stuck, under any limits.
  pub never_stuck : (L : Limits) (tape : List ℕ) → All IsByte tape → (run p L tape).ending ≢ went_wrong
  never_stuck L tape B e = subst NotWrong e (run-right p L tape (allowed s p a).typed (accepted-literals s p a) B)

  -- Its run ends with 0, a fault (40, 41, 42, 63, 64) or a limit (50, 51, 52, 53).
  pub ends-well : (L : Limits) (tape : List ℕ) → All IsByte tape → EndsWell (run p L tape).ending
  ends-well L tape B = run-ends-well p L tape (allowed s p a).typed (accepted-literals s p a) B

-- With the same tape, under larger limits a run that ended by itself, in 0, 40, 41, 42, 63 or 64, has the same report: result, position,
-- steps, climbs, heap words, printed numbers and registers.
pub same_end : (p : Program) (L M : Limits) (tape : List ℕ) (k q : ℕ) → L ⊑ M → Finish k → (run p L tape).ending ≡ ended k q
    → run p M tape ≡ run p L tape
same_end p L M tape k q h f e = agree_same f e (run-agrees p L M tape h)

-- What a run prints, also one that a limit stopped, begins what it prints under larger limits with the same tape, in the same order.
pub printed-begins : (p : Program) (L M : Limits) (tape : List ℕ) → L ⊑ M → Begins (run p L tape).printed (run p M tape).printed
printed-begins p L M tape h = agree-begins (run-agrees p L M tape h)

-- Document 02, (vii): the classes that the calls of a run climb through are at most its steps times the classes of the table, also where a
-- limit stopped it.
pub climbs-bounded : (p : Program) (L : Limits) (tape : List ℕ) → (run p L tape).climbs ≤ (run p L tape).steps * length p.classes
climbs-bounded p L tape = run-climbs p L tape

-- Document 02, (viii): a lesson without `Port` behaves the same for every tape: result, position, steps, climbs, heap words and printed
-- numbers.
pub any-tape : (p : Program) → Portless p → (L : Limits) (tape tape' : List ℕ) → SameButRegisters (run p L tape) (run p L tape')
any-tape p w L tape tape' = never-asked p w L tape tape'

-- The fuel of a run is always enough.
pub always-ends : (p : Program) (L : Limits) (tape : List ℕ) → (run p L tape).ending ≢ unfinished
always-ends p L tape e = subst Over e (run_ends p L tape)
