-- Document 02, (xi): the run of a lesson with class declarations behind it. It holds since what a typed state asks for it asks for over every
-- longer class table (appended/laws).
use Rattle.std.specs.Prelude.{ℕ, ◌≡◌, List, ◌++◌}
use Rattle.std.proofs.Common.{ap}
use Rattle.base.specs.All.{All}
use Rattle.device.specs.Device.{IsByte}
use Rattle.parser.specs.Tree.{Program}
use Rattle.acceptance.specs.Accepted.{Allowed, allowed-accepted}
use Rattle.semantics.specs.Limits.{Limits, run}
use Rattle.appended.proofs.laws.Programs.{appended-same}
use Rattle.guarantees.proofs.laws.Literals.{accepted-literals}
use Rattle.guarantees.proofs.TreeAppended.{tree-appended}

-- the lesson s of the tree p, and s with t behind it, of the tree q: both are accepted
module _ (s t : List ℕ) (p q : Program) (A : Allowed s p) (B : Allowed (s ++ t) q) where
  module _ (tape : List ℕ) (bytes : All IsByte tape) where
    -- Both runs report the same, under all limits: result, position, steps, words, climbs, printed numbers and registers.
    pub run-appended : (L : Limits) → run q L tape ≡ run p L tape
    run-appended L =
        let w = tree-appended s t p q A B in
        appended-same p q L tape bytes A.typed (accepted-literals s p (allowed-accepted s p A))
        (record {
          statement = ap (λ (x : Program). x.statement) w.1;
          more = w.0;
          classes = ap (λ (x : Program). x.classes) w.1;
        })
