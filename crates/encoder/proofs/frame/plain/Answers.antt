-- `plain` meets its contract: the frames from here on complete those from place i on.
use Rattle.std.proofs.Common.{◌≡◌, ◌+◌, ◌-◌, arith}
use Rattle.encoder.proofs.FrameLaws.{plain-none, plain-next}
use Rattle.encoder.proofs.frame.plain.Goals as goal

pub loop-k-init : goal.loop-k-init
loop-k-init c =
    let n : c.args.i + c.args.left - c.args.i ≡ c.args.left = omega arith in
    (omega arith, λ a r h. rw n at h)

pub loop-k-preserved : goal.loop-k-preserved
loop-k-preserved c =
    let behind = c.args.i + c.args.left in
    let k = c.loop-k.k in
    let n : behind - (k + 1) ≡ behind - k - 1 = omega arith in (
      omega (arith, c.line-next.ensures.behind),
      λ a r h. c.loop-k.invariant.1 a r
          (plain-next (omega arith) c.cell-op.ensures.0 c.operand.ensures c.line-next.ensures (rw (← n) h)),
    )

pub returns : goal.returns
returns c = c.loop-k.invariant.1 _ _ (plain-none (omega arith))
