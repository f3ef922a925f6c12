-- Each return is a law of `TableLaws`.
use Rattle.encoder.proofs.TableLaws.{class-found, class-without}
use Rattle.encoder.proofs.tables.of_class.Goals as goal

pub returns-then-row-lt-ABSENT : goal.returns-then-row-lt-ABSENT
returns-then-row-lt-ABSENT c = search class-found

pub returns : goal.returns
returns c = search class-without
