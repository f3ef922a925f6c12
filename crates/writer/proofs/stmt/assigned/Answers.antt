-- `assigned` meets its contract.
use Rattle.writer.proofs.StatementLaws.{assignment-wrote}
use Rattle.writer.proofs.ExpressionLaws.{part-writable}
use borrow.Author.Rules.{rules}
use Rattle.writer.proofs.stmt.assigned.Goals as goal

pub followed-requires : goal.followed-requires
followed-requires c = search (rules, part-writable)

pub returns : goal.returns
returns c = search assignment-wrote
