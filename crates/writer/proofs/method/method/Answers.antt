-- `method` meets its contract.
use Rattle.writer.proofs.MethodLaws.{method-wrote}
use borrow.Author.Rules.{rules}
use Rattle.writer.proofs.method.method.Goals as goal

-- what is asked for before the body is written, and before the value is
pub list-a-requires : goal.list-a-requires
list-a-requires c =
    record { judgeable = search rules; names-long = search rules; few = search rules; low = search rules; within = search rules }

pub expression-b-requires : goal.expression-b-requires
expression-b-requires c =
    record { judgeable = search rules; names-long = search rules; few = search rules; low = search rules; within = search rules }

pub returns : goal.returns
returns c =
    method-wrote c.word.ensures.0 c.word-2.ensures.0 c.part-body.ensures
    c.list-a.ensures c.part-value.ensures c.expression-b.ensures c.put.ensures
