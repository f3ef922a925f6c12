-- `plain` meets its contract: the frames from here on complete those from place i on.
use Rattle.std.proofs.Common.{ℕ, ◌+◌, ◌-◌, ◌*◌, ◌≤◌, List}
use Rattle.encoder.specs.promises.Frames.{PlainPost}
use Rattle.encoder.proofs.frame.plain.Given as goal

abbrev pub invariant-loop-k : goal.invariant-loop-k
invariant-loop-k l =
    (l.next ≤ l.at + 11 * (l.k - l.i))
    × ((after : List ℕ) (r : ℕ)
    → PlainPost l.l.code.now l.l.classes.now l.l.methods.now l.l.plan l.k (l.i + l.left - l.k) l.next l.strip after r
    → PlainPost l.l.code.now l.l.classes.now l.l.methods.now l.l.plan l.i l.left l.at l.initial.strip after r)
