-- Each return is a law of `ClassLaws`.
use Rattle.declarations.proofs.ClassLaws.{orphan-none, orphan-is}
use Rattle.declarations.proofs.classes.is_orphan.Goals as goal

pub returns-then-p-ge-ABSENT : goal.returns-then-p-ge-ABSENT
returns-then-p-ge-ABSENT c = search orphan-none

pub returns : goal.returns
returns c = search orphan-is
