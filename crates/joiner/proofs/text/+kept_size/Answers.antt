-- The measure is what is left. Each return is a law of `Writing`.
use Rattle.joiner.proofs.Writing.{size_none, size-past, size-taken, size-kept}
use Rattle.joiner.proofs.text.+kept_size.Goals as goal

pub returns-then-left-eq0 : goal.returns-then-left-eq0
returns-then-left-eq0 t c = size_none _ _ _ _ _ _ _ c.if-left-eq0.true

pub returns-then-row-ge-ABSENT : goal.returns-then-row-ge-ABSENT
returns-then-row-ge-ABSENT t c = size-past _ _ _ _ _ _ _ c.if-left-eq0.false c.if-row-ge-ABSENT.true

pub returns-then-taken : goal.returns-then-taken
returns-then-taken t c = size-taken _ _ _ _ _ _ _ c.if-left-eq0.false
    c.if-row-ge-ABSENT.false c.word-next.ensures.0
    c.word-name.ensures.0 c.taken.ensures c.if-taken.true c.kept_size-rest.ensures

pub returns : goal.returns
returns t c = size-kept _ _ _ _ _ _ _
    c.if-left-eq0.false
    c.if-row-ge-ABSENT.false c.word-next.ensures.0
    c.word-name.ensures.0 c.taken.ensures c.if-taken.false
    c.kept_size-rest.ensures c.own_size.ensures
