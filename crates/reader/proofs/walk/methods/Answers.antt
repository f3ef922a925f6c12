-- `methods` meets its contract. Its loop keeps what `SoFar` says, by the laws of `Declarations`, and its measure is the number of rows
-- left.
use mathlib.Core.Bool.{true}
use native.Mathlib.Omega.{arith}
use Rattle.reader.proofs.Lists.{so-far-none, so_far_more, so-far-end, follower-rises}
use Rattle.reader.proofs.Declarations.{methods-none, methods-step, methods-absent}
use Rattle.reader.proofs.walk.methods.Goals as goal

pub loop-at-init : goal.loop-at-init
loop-at-init c = so-far-none _ c.nothing-all.ensures.0 c.nothing-all.ensures.1 (λ rest w k j. methods-none c.nothing-all.ensures.0 c.nothing-all.ensures.1 k j)

pub loop-at-smaller : goal.loop-at-smaller
loop-at-smaller c = omega (arith, follower-rises c.args.table.now c.loop-at.at true (omega arith))

pub loop-at-preserved : goal.loop-at-preserved
loop-at-preserved c = so_far_more _ c.join-own.result (λ rest w k j. methods-step c.loop-at-test.true c.column.ensures.0 c.part-body.ensures c.column-in-loop-at.ensures.0 c.part-value.ensures c.join-own.ensures j c.following-at.ensures k) c.loop-at.invariant c.join-all.ensures

pub returns : goal.returns
returns c = so-far-end _ c.nothing-all.result c.nothing-all.ensures.0 c.nothing-all.ensures.1 (methods-absent c.requires c.loop-at-test.false c.nothing-all.ensures.0 c.nothing-all.ensures.1) c.loop-at.invariant
