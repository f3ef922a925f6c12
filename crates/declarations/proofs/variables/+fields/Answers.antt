-- The measure is what is left. Each return is a law of `VariableLaws`.
use Rattle.declarations.proofs.VariableLaws.{fields-none-left, fields-absent, fields-repeated, fields-next, fields-unknown}
use Rattle.declarations.proofs.variables.+fields.Goals as goal

pub returns-then-row-ge-ABSENT : goal.returns-then-row-ge-ABSENT
returns-then-row-ge-ABSENT t c = search fields-absent

pub returns-then-left-eq0 : goal.returns-then-left-eq0
returns-then-left-eq0 t c = search fields-none-left

pub returns-then-mark : goal.returns-then-mark
returns-then-mark t c = search fields-repeated

pub returns-then-is_known : goal.returns-then-is_known
returns-then-is_known t c = search fields-next

pub returns : goal.returns
returns t c = search fields-unknown
