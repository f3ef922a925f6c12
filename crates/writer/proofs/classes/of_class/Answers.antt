-- Each return is a law of `ClassLaws`.
use Rattle.writer.proofs.ClassLaws.{class-empty, class-wrote}
use Rattle.writer.proofs.classes.of_class.Goals as goal

pub returns-then-first-ge-ABSENT : goal.returns-then-first-ge-ABSENT
returns-then-first-ge-ABSENT c = search class-empty

pub returns : goal.returns
returns c = search class-wrote
