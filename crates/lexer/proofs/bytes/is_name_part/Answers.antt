-- `lexer::bytes::is_name_part` meets its contract: the definition takes the same tests in the same order.
use Rattle.lexer.proofs.ByteKinds.{name-letter, name-digit, name-other}
use Rattle.lexer.proofs.bytes.is_name_part.Goals as goal

pub returns-then-kind-eq-LETTER : goal.returns-then-kind-eq-LETTER
returns-then-kind-eq-LETTER c = name-letter c.args.b c.kind_of-kind.ensures c.if-kind-eq-LETTER.true

pub returns-then-kind-eq-DIGIT : goal.returns-then-kind-eq-DIGIT
returns-then-kind-eq-DIGIT c = name-digit c.args.b c.kind_of-kind.ensures c.if-kind-eq-LETTER.false c.if-kind-eq-DIGIT.true

pub returns : goal.returns
returns c = name-other c.args.b c.kind_of-kind.ensures c.if-kind-eq-LETTER.false c.if-kind-eq-DIGIT.false
