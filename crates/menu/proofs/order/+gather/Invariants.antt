-- The measure is what is left. Each return is a law of `OrderLaws`.
use Rattle.menu.proofs.order.+gather.Given as goal

abbrev pub decreases-gather : goal.decreases-gather
decreases-gather l = l.left
