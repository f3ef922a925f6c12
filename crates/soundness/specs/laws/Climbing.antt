-- Document 02, (vii): the classes that the calls of a run climb through are at most as many as its steps times the classes of the table. A
-- call that is opened was begun before, which was a step, and it visits at most all classes.
use Rattle.std.specs.Prelude.{ℕ, zero, suc, ◌+◌, ◌*◌, ◌≤◌, List, length, ltb, leb}
use Rattle.std.proofs.Common.{suc-mul, mul-le-mul_right, arith}
use Rattle.device.specs.Device.{got}
use Rattle.parser.specs.Tree.{Class, Program}
use Rattle.typing.specs.laws.Choices.{by-test}
use Rattle.semantics.specs.Machine.{Core, Request, Request.charge, Request.allocate, Request.enter, Request.output, Request.receive, Request.send}
use Rattle.semantics.specs.Machine.{Request.move, Request.fault, Request.done, Request.stuck, plan, start}
use Rattle.semantics.specs.Limits.{Limits, Meters, begun, Progress, next, stop, guard, Report, size_of, run_with, run}
use Rattle.soundness.specs.laws.Continuations.{after-by}
use Rattle.soundness.specs.laws.Ending.{load_of, waiting_of, Pays, plan-pays}

-- so many calls were opened, each through at most all classes; they and those that wait were begun
pub record CallsCounted (G : List Class) (c : Core) (m : Meters) : Type 0 where
  pub opened : ℕ
  pub few : m.climbs ≤ opened * length G
  pub begun : opened + waiting_of c ≤ m.steps

abbrev Counts : List Class → Progress Core → Type 0
Counts G (next c m) = CallsCounted G c m
Counts G (stop e) = Unit {0}

guard-counts : (G : List Class) (L : Limits) (m : Meters) (c : Core) (r : Request Core) → Pays G (load_of c) (waiting_of c) r
    → CallsCounted G c m
    → Counts G (guard L m r)
unfolding guard
guard-counts G L m c (charge p d) h i =
    by-test (Counts G) (ltb m.steps L.budget) _ _ (λ _. record { opened = i.opened; few = i.few; begun = omega (arith, h.1, i.begun) }) (λ _. tt)
guard-counts G L m c (allocate p n d) h i =
    by-test (Counts G) (leb n L.heap) _ _ (λ _. record { opened = i.opened; few = i.few; begun = omega (arith, h.1, i.begun) }) (λ _. tt)
guard-counts G L m c (enter p n k d) h i =
    by-test (Counts G) (leb n L.calls) _ _
    (λ _. record {
      opened = suc i.opened;
      few = omega (arith, suc-mul i.opened (length G), i.few, h.2);
      begun = omega (arith, h.1, i.begun);
    })
    (λ _. tt)
guard-counts G L m c (output p z d) h i =
    by-test (Counts G) (ltb (length m.printed) L.printed) _ _
    (λ _. record { opened = i.opened; few = i.few; begun = omega (arith, h.1, i.begun) }) (λ _. tt)
guard-counts G L m c (receive n d) h i =
    let q = h (got n m.device) in
    record { opened = i.opened; few = i.few; begun = omega (arith, q.1, i.begun) }
guard-counts G L m c (send n b d) h i = record { opened = i.opened; few = i.few; begun = omega (arith, h.1, i.begun) }
guard-counts G L m c (move d) h i = record { opened = i.opened; few = i.few; begun = omega (arith, h.1, i.begun) }
guard-counts G L m c (fault k p) h i = tt
guard-counts G L m c done h i = tt
guard-counts G L m c stuck h i = tt

abbrev pub ClimbsFew : List Class → Report → Type 0
ClimbsFew G r = r.climbs ≤ r.steps * length G

counted-few : {G : List Class} {c : Core} {m : Meters} → CallsCounted G c m → m.climbs ≤ m.steps * length G
counted-few {G} {c} {m} i =
    let more : i.opened ≤ m.steps = omega (arith, i.begun) in
    omega (arith, i.few, mul-le-mul_right (length G) more)

runs-climb : (f : ℕ) (G : List Class) (L : Limits) (c : Core) (m : Meters) → CallsCounted G c m
    → ClimbsFew G (run_with (plan G) size_of L f c m)
unfolding run_with
runs-climb zero G L c m i = counted-few i
runs-climb (suc f) G L c m i =
    after-by (Counts G) (ClimbsFew G) (λ d n. run_with (plan G) size_of L f d n) c m (λ d n j. runs-climb f G L d n j) (λ e _. counted-few i)
    (guard L m (plan G c)) (guard-counts G L m c (plan G c) (plan-pays G c) i)

pub run-climbs : (p : Program) (L : Limits) (tape : List ℕ) → ClimbsFew p.classes (run p L tape)
unfolding run
run-climbs p L tape =
    runs-climb (4 * L.budget + 4) p.classes L (start p) (begun tape) (record { opened = 0; few = omega arith; begun = omega arith })
