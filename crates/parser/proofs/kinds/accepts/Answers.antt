-- `accepts` meets its contract: the test picks the same case.
use borrow.Author.Tests.{eq-eqb, ne_eqb}
use Rattle.parser.proofs.kinds.accepts.Goals as goal

pub returns-then-wanted-eq-NAME : goal.returns-then-wanted-eq-NAME
returns-then-wanted-eq-NAME c = simp (eq-eqb _ _ c.if-wanted-eq-NAME.true) c.is_name.ensures

pub returns-else-wanted-eq-NAME : goal.returns-else-wanted-eq-NAME
returns-else-wanted-eq-NAME c = simp (ne_eqb _ _ c.if-wanted-eq-NAME.false)
