-- `creation` meets its contract.
use mathlib.Core.Path.{refl}
use Rattle.writer.proofs.ExpressionLaws.{creation-wrote, creation-none}
use Rattle.writer.proofs.expr.creation.Goals as goal

pub returns-then-x-lt-ABSENT : goal.returns-then-x-lt-ABSENT
returns-then-x-lt-ABSENT c = creation-wrote c.word-x.ensures.0
    c.word-start.ensures.0 refl c.put.ensures

pub returns : goal.returns
returns c = search creation-none
