-- The proof of the cycle of calls on parts and nodes. The measure is 2 for each level of depth left, and 1 more for a part.
-- The loop of `part` keeps what `SoFar` says, and its measure is the number of rows left. Each return and each turn is by a law of `Walks`.
use native.Mathlib.Omega.{arith}
use Rattle.reader.proofs.Lists.{so-far-none, so_far_more, so-far-end, follower-rises}
use Rattle.reader.proofs.Walks.{part_none, part_step, part-absent, node-far, node-two, node-three}
use Rattle.reader.proofs.walk.+node_part.Goals as goal

pub node-returns-then-d-gt-DEPTH_MOST : goal.node-returns-then-d-gt-DEPTH_MOST
node-returns-then-d-gt-DEPTH_MOST t c = node-far c.requires.1 c.if-d-gt-DEPTH_MOST.true c.column-start.ensures.0 c.column-start.ensures.1

pub node-returns-then-k-eq-IF : goal.node-returns-then-k-eq-IF
node-returns-then-k-eq-IF t c = node-three _ _ c.kind-k.ensures c.column.ensures.0 c.part-a.ensures c.column-2.ensures.0 c.part-b.ensures c.join-two.ensures c.requires.1 c.if-d-gt-DEPTH_MOST.false c.if-k-eq-IF.true c.column-then-k-eq-IF.ensures.0 c.part-c.ensures c.join-three.ensures c.whole.ensures

pub node-returns : goal.node-returns
node-returns t c = node-two _ _ c.kind-k.ensures c.column.ensures.0 c.part-a.ensures c.column-2.ensures.0 c.part-b.ensures c.join-two.ensures c.requires.1 c.if-d-gt-DEPTH_MOST.false c.if-k-eq-IF.false c.whole-2.ensures

pub part-loop-at-init : goal.part-loop-at-init
part-loop-at-init t c = so-far-none _ c.nothing-all.ensures.0 c.nothing-all.ensures.1 (λ rest w k j. part_none c.nothing-all.ensures.0 c.nothing-all.ensures.1 k j)

pub part-loop-at-smaller : goal.part-loop-at-smaller
part-loop-at-smaller t c = omega (arith, follower-rises c.args.table.now c.loop-at.at c.args.chain c.loop-at-test.true)

pub part-loop-at-preserved : goal.part-loop-at-preserved
part-loop-at-preserved t c = so_far_more _ c.node-member.result (λ rest w k j. part_step c.args.chain c.loop-at-test.true c.node-member.ensures c.following-at.ensures k j) c.loop-at.invariant c.join-all.ensures

pub part-returns : goal.part-returns
part-returns t c = so-far-end _ c.nothing-all.result c.nothing-all.ensures.0 c.nothing-all.ensures.1 (part-absent c.requires.0 c.loop-at-test.false c.nothing-all.ensures.0 c.nothing-all.ensures.1) c.loop-at.invariant
