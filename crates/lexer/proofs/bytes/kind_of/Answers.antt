-- `lexer::bytes::kind_of` meets its contract: each entry of a right table is that of the rule.
use borrow.Author.Rules.{rules}
use Rattle.lexer.proofs.Table.{entry}
use Rattle.lexer.proofs.bytes.kind_of.Goals as goal

pub returns : goal.returns
returns c = entry c.args.b c.requires (search rules)
