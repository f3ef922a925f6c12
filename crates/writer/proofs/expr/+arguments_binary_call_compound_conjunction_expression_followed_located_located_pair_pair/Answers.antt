-- The cycle of calls on expressions. The measure is 5 for each node that may still come, and the rank of the function. Each return is a
-- law of `ExpressionLaws` or of `ListLaws`.
use native.Mathlib.Omega.{arith}
use Rattle.writer.proofs.ExpressionLaws.{expression-none, expression-atom, expression-compound, compound-array, compound-object}
use Rattle.writer.proofs.ExpressionLaws.{compound-length, compound-call, compound-not, compound-get, compound-element}
use Rattle.writer.proofs.ExpressionLaws.{compound-binary}
use Rattle.writer.proofs.ExpressionLaws.{binary-and, binary-scale, binary-operation, followed-wrote, located-wrote, pair-wrote}
use Rattle.writer.proofs.ExpressionLaws.{conjunction-wrote, located-pair-wrote}
use Rattle.writer.proofs.ExpressionLaws.{part-writable, call-wrote}
use Rattle.writer.proofs.ListLaws.{of-arguments, list-none, list-end, list-more}
use borrow.Author.Rules.{rules}
use Rattle.writer.proofs.expr.+arguments_binary_call_compound_conjunction_expression_followed_located_located_pair_pair.Goals as goal

pub arguments-returns-then-p-eq0 : goal.arguments-returns-then-p-eq0
arguments-returns-then-p-eq0 t c = search (list-none of-arguments)

pub arguments-returns-then-p-ge-ABSENT : goal.arguments-returns-then-p-ge-ABSENT
arguments-returns-then-p-ge-ABSENT t c = search (list-end of-arguments)

pub arguments-arguments-requires : goal.arguments-arguments-requires
arguments-arguments-requires t c = (search rules, search rules)

pub arguments-returns : goal.arguments-returns
arguments-returns t c = search (list-more of-arguments)

pub binary-returns-then-k-eq-AND : goal.binary-returns-then-k-eq-AND
binary-returns-then-k-eq-AND t c = search binary-and

pub binary-returns-then-scales : goal.binary-returns-then-scales
binary-returns-then-scales t c = search binary-scale

pub binary-returns : goal.binary-returns
binary-returns t c = search binary-operation

pub call-expression-a-requires : goal.call-expression-a-requires
call-expression-a-requires t c = (search rules, search (rules, part-writable))

pub call-count-many-requires : goal.call-count-many-requires
call-count-many-requires t c =
    c.requires.judgeable.walkable.big

pub call-arguments-b-requires : goal.call-arguments-b-requires
call-arguments-b-requires t c = (search rules, search (rules, part-writable))

pub call-put-requires : goal.call-put-requires
call-put-requires t c = (
  c.arguments-b.ensures.within,
  omega arith,
  c.word-start.ensures.1,
  c.word-method.ensures.1,
  omega (arith, c.count-many.ensures.most, c.part-given.ensures.nodes, c.requires.few),
)

pub call-returns : goal.call-returns
call-returns t c = call-wrote c.part-first.ensures c.expression-a.ensures c.part-given.ensures c.arguments-b.ensures
    c.word-start.ensures.0 c.word-method.ensures.0 c.count-many.ensures c.put.ensures

pub compound-returns-then-kind-eq-OPEN_BRACKET : goal.compound-returns-then-kind-eq-OPEN_BRACKET
compound-returns-then-kind-eq-OPEN_BRACKET t c = search compound-array

pub compound-returns-then-k-eq-NEW : goal.compound-returns-then-k-eq-NEW
compound-returns-then-k-eq-NEW t c = search compound-object

pub compound-returns-then-kind-eq-LENGTH : goal.compound-returns-then-kind-eq-LENGTH
compound-returns-then-kind-eq-LENGTH t c = search compound-length

pub compound-returns-then-k-eq-DOT : goal.compound-returns-then-k-eq-DOT
compound-returns-then-k-eq-DOT t c = search compound-call

pub compound-followed-requires : goal.compound-followed-requires
compound-followed-requires t c = (search rules, search (rules, part-writable))

pub compound-returns-then-k-eq-NOT : goal.compound-returns-then-k-eq-NOT
compound-returns-then-k-eq-NOT t c = search compound-not

pub compound-returns-then-k-eq-PORT : goal.compound-returns-then-k-eq-PORT
compound-returns-then-k-eq-PORT t c = search compound-get

pub compound-returns-then-k-eq-OPEN_BRACKET : goal.compound-returns-then-k-eq-OPEN_BRACKET
compound-returns-then-k-eq-OPEN_BRACKET t c = search compound-element

pub compound-returns : goal.compound-returns
compound-returns t c = search compound-binary

pub conjunction-expression-b-requires : goal.conjunction-expression-b-requires
conjunction-expression-b-requires t c = (search rules, search (rules, part-writable))

pub conjunction-returns : goal.conjunction-returns
conjunction-returns t c = conjunction-wrote c.part-first.ensures c.expression-a.ensures c.next.ensures c.part-second.ensures
    c.expression-b.ensures c.put.ensures

pub expression-returns-then-p-eq0 : goal.expression-returns-then-p-eq0
expression-returns-then-p-eq0 t c = search expression-none

pub expression-returns-then-is_atom : goal.expression-returns-then-is_atom
expression-returns-then-is_atom t c = search expression-atom

pub expression-compound-requires : goal.expression-compound-requires
expression-compound-requires t c = (search rules, search rules)

pub expression-returns : goal.expression-returns
expression-returns t c = search expression-compound

pub followed-returns : goal.followed-returns
followed-returns t c = search followed-wrote

pub located-followed-requires : goal.located-followed-requires
located-followed-requires t c = (search rules, search (rules, part-writable))

pub located-returns : goal.located-returns
located-returns t c = search located-wrote

pub located_pair-returns : goal.located_pair-returns
located_pair-returns t c = search located-pair-wrote

pub pair-followed-requires : goal.pair-followed-requires
pair-followed-requires t c = (search rules, search (rules, part-writable))

pub pair-returns : goal.pair-returns
pair-returns t c = search pair-wrote
