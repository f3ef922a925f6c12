-- `tables` meets its contract: the tables from here on complete those from place j on.
use Rattle.std.proofs.Common.{◌≡◌, ◌+◌, ◌-◌, arith}
use Rattle.encoder.proofs.TableLaws.{tables-none, tables-next}
use Rattle.encoder.proofs.tables.tables.Goals as goal

pub loop-k-init : goal.loop-k-init
loop-k-init c =
    let n : c.args.j + c.args.left - c.args.j ≡ c.args.left = omega arith in
    (omega arith, λ a r h. rw n at h)

pub loop-k-preserved : goal.loop-k-preserved
loop-k-preserved c =
    let behind = c.args.j + c.args.left in
    let k = c.loop-k.k in
    let n : behind - (k + 1) ≡ behind - k - 1 = omega arith in (
      omega (arith, c.of_method-next.ensures.within, c.args.l.now.plan.few_classes),
      λ a r h. c.loop-k.invariant.1 a r
          (tables-next (omega arith) c.args.l.now.plan.few_classes c.word-first.ensures.0 c.cell.ensures.0 c.of_method-next.ensures (rw (← n) h)),
    )

pub returns : goal.returns
returns c = c.loop-k.invariant.1 _ _ (tables-none (omega arith))
