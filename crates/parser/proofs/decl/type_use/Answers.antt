-- `type_use` meets its contract: each return is a law of `Variables`.
use Rattle.parser.proofs.Wholes.{passed-on}
use Rattle.parser.proofs.Variables.{type-fixed, type-array, type-open, type-plain, type-none}
use Rattle.parser.proofs.decl.type_use.Goals as goal

pub returns-then-k-eq-FIXED : goal.returns-then-k-eq-FIXED
returns-then-k-eq-FIXED c = search type-fixed

pub returns-in_err-next : goal.returns-in_err-next
returns-in_err-next c =
    rw (passed-on c.from_residual.ensures.1)
    (type-open c.kind-k.ensures c.begins_type.ensures c.if-begins_type.true c.if-k-eq-FIXED.false c.kind.ensures c.if-kind-eq-OPEN_BRACKET.true c.in_err-next.ensures)

pub returns-then-kind-eq-OPEN_BRACKET : goal.returns-then-kind-eq-OPEN_BRACKET
returns-then-kind-eq-OPEN_BRACKET c =
    type-array c.kind-k.ensures c.begins_type.ensures c.if-begins_type.true c.if-k-eq-FIXED.false c.kind.ensures c.if-kind-eq-OPEN_BRACKET.true c.in_ok-next.ensures

pub returns-then-begins_type : goal.returns-then-begins_type
returns-then-begins_type c = search type-plain

pub returns : goal.returns
returns c = search type-none
