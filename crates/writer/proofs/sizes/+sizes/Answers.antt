-- The measure is how many classes may still come. Each return is a law of `SizeLaws`.
use Rattle.writer.proofs.SizeLaws.{sizes-none, sizes-end, sizes-more}
use Rattle.writer.proofs.sizes.+sizes.Goals as goal

pub returns-then-left-eq0 : goal.returns-then-left-eq0
returns-then-left-eq0 t c = search sizes-none

pub returns-then-row-ge-ABSENT : goal.returns-then-row-ge-ABSENT
returns-then-row-ge-ABSENT t c = search sizes-end

pub returns : goal.returns
returns t c = search sizes-more
