-- `is_operator` meets its contract: the level picks the operators, and the token's kind is or is not one of them.
use Rattle.parser.proofs.Operators.{conjunctions, comparisons, plus-signs, minus-signs, products}
use Rattle.parser.proofs.kinds.is_operator.Goals as goal

pub returns-in-0 : goal.returns-in-0
returns-in-0 c = search conjunctions

pub returns-in-1 : goal.returns-in-1
returns-in-1 c = search comparisons

pub returns-then-k-eq-PLUS : goal.returns-then-k-eq-PLUS
returns-then-k-eq-PLUS c = search plus-signs

pub returns-else-k-eq-PLUS : goal.returns-else-k-eq-PLUS
returns-else-k-eq-PLUS c = search minus-signs

pub returns-in_default : goal.returns-in_default
returns-in_default c = search products
