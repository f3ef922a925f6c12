-- Each return is a law of `SizeLaws`.
use Rattle.writer.proofs.SizeLaws.{size-written, size-past}
use Rattle.writer.proofs.sizes.size.Goals as goal

pub returns-then-x-lt-ABSENT : goal.returns-then-x-lt-ABSENT
returns-then-x-lt-ABSENT c = search size-written

pub returns-else-x-lt-ABSENT : goal.returns-else-x-lt-ABSENT
returns-else-x-lt-ABSENT c = search size-past
