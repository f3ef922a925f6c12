-- `behind` meets its contract: what stands from here on is all that stands from place i on.
use Rattle.std.proofs.Common.{◌≡◌, ◌+◌, ◌-◌, arith}
use Rattle.encoder.proofs.FrameLaws.{behind-end, behind-next}
use Rattle.encoder.proofs.frame.behind.Goals as goal

pub loop-k-init : goal.loop-k-init
loop-k-init c =
    let n : c.args.i + c.args.left - c.args.i ≡ c.args.left = omega arith in
    λ r h. rw n at h

pub returns-then-cell : goal.returns-then-cell
returns-then-cell c = c.loop-k.invariant _ (search behind-end)

pub loop-k-preserved : goal.loop-k-preserved
loop-k-preserved c = λ r h.
    let behind = c.args.i + c.args.left in
    let n : behind - (c.loop-k.k + 1) ≡ behind - c.loop-k.k - 1 = omega arith in
    c.loop-k.invariant r (behind-next (omega arith) c.cell.ensures.0 c.if-cell.false (rw (← n) h))
