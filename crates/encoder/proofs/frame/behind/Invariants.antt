-- `behind` meets its contract: what stands from here on is all that stands from place i on.
use Rattle.std.proofs.Common.{ℕ, ◌+◌, ◌-◌}
use Rattle.encoder.specs.promises.Frames.{BehindPost}
use Rattle.encoder.proofs.frame.behind.Given as goal

abbrev pub invariant-loop-k : goal.invariant-loop-k
invariant-loop-k l = (r : ℕ) → BehindPost l.code l.k (l.i + l.left - l.k) r → BehindPost l.code l.i l.left r
