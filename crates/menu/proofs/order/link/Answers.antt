-- The return is a law of `OrderLaws`.
use Rattle.menu.proofs.OrderLaws.{link_row}
use Rattle.menu.proofs.order.link.Goals as goal

pub returns : goal.returns
returns c = search link_row
