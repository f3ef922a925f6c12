-- `copy` meets its contract: after i turns the first i bytes were written.
use native.Mathlib.Omega.{arith}
use Rattle.joiner.proofs.Writing.{copied_none, copied_more, copied_all}
use Rattle.joiner.proofs.text.copy.Goals as goal

pub loop-i-init : goal.loop-i-init
loop-i-init c = copied_none _ _ _ _ _

pub loop-i-preserved : goal.loop-i-preserved
loop-i-preserved c = copied_more _ _ _ _ _ (omega (arith, c.loop-i-test.true, c.part_size-count.ensures.0)) c.loop-i.invariant

pub returns : goal.returns
returns c = copied_all _ _ _ _ _ (omega (arith, c.loop-i-test.false, c.part_size-count.ensures.0)) c.loop-i.invariant
