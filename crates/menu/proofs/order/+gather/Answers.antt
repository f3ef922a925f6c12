-- The measure is what is left. Each return is a law of `OrderLaws`.
use Rattle.menu.proofs.OrderLaws.{gather_none, gather-absent, gather-root, gather-unknown, gather-child}
use Rattle.menu.proofs.order.+gather.Goals as goal

pub returns-then-left-eq0 : goal.returns-then-left-eq0
returns-then-left-eq0 t c = search gather_none

pub returns-then-row-ge-ABSENT : goal.returns-then-row-ge-ABSENT
returns-then-row-ge-ABSENT t c = search gather-absent

pub returns-then-c-ge-ABSENT : goal.returns-then-c-ge-ABSENT
returns-then-c-ge-ABSENT t c = search gather-root

pub returns-then-parent-ge-ABSENT : goal.returns-then-parent-ge-ABSENT
returns-then-parent-ge-ABSENT t c = search gather-unknown

pub returns : goal.returns
returns t c = search gather-child
