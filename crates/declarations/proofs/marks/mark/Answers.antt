-- Each return is a law of `MarkLaws`.
use Rattle.declarations.proofs.MarkLaws.{mark-past, mark-again, mark-new}
use Rattle.declarations.proofs.marks.mark.Goals as goal

pub returns-then-x-ge-ABSENT : goal.returns-then-x-ge-ABSENT
returns-then-x-ge-ABSENT c = search mark-past

pub returns-then-marks-x : goal.returns-then-marks-x
returns-then-marks-x c = search mark-again

pub returns : goal.returns
returns c = search mark-new
