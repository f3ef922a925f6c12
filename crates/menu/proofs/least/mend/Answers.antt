-- One node is mended by a law of `LeastLaws`.
use Rattle.std.proofs.Common.{rules}
use Rattle.menu.proofs.LeastLaws.{mend-none, mend-next}
use Rattle.menu.proofs.least.mend.Goals as goal

pub loop-node-preserved : goal.loop-node-preserved
loop-node-preserved c = (search rules, λ after m. c.loop-node.invariant.1 after (search (mend-next, rules)))

pub returns : goal.returns
returns c = c.loop-node.invariant.1 c.loop-node.tree (mend-none c.loop-node.tree (search rules))
