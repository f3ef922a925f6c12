-- `keep` meets its contract: what is listed from here on completes what is listed from the first class on.
use Rattle.std.proofs.Common.{◌≡◌, ◌+◌, ◌-◌, refl, arith}
use Rattle.joiner.specs.promises.Names.{classes_most}
use Rattle.joiner.proofs.Naming.{collect-none, collect-past, collect-more, keep_all}
use Rattle.joiner.proofs.names.keep.Goals as goal

pub loop-count-init : goal.loop-count-init
loop-count-init c = (omega arith, λ r d w. w)

pub loop-count-preserved : goal.loop-count-preserved
loop-count-preserved c =
    let n : classes_most - (c.loop-count.count + 1) ≡ classes_most - c.loop-count.count - 1 = omega arith in (
      omega arith,
      λ r d w. c.loop-count.invariant.1 r d
          (collect-more c.args.table.now c.loop-count.row c.loop-count.count c.loop-count.names (omega arith) c.if-row-lt-ABSENT.true
          c.word-in-loop-count.ensures.0 c.word-row-in-loop-count.ensures.0 refl (rw (← n) w)),
    )

pub returns-else-row-lt-ABSENT : goal.returns-else-row-lt-ABSENT
returns-else-row-lt-ABSENT c =
    keep_all c.args.table.now c.args.names.now c.requires.1 c.word.ensures.0 c.word-row.ensures.0 refl
    (c.loop-count.invariant.1 _ _ (collect-past _ _ _ _ (omega arith) c.if-row-lt-ABSENT.false))

pub returns-after-loop-count : goal.returns-after-loop-count
returns-after-loop-count c =
    keep_all c.args.table.now c.args.names.now c.requires.1 c.word.ensures.0 c.word-row.ensures.0 refl
    (c.loop-count.invariant.1 _ _ (collect-none _ _ _ _ (omega arith)))
