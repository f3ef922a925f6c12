-- Each return is a law of `BodyLaws`.
use Rattle.typecheck.proofs.BodyLaws.{class-empty, class-judged}
use Rattle.typecheck.proofs.method.of_class.Goals as goal

pub returns-then-first-ge-ABSENT : goal.returns-then-first-ge-ABSENT
returns-then-first-ge-ABSENT c = search class-empty

pub returns : goal.returns
returns c = search class-judged
