-- `starts_array` meets its contract: where the first test fails the others do not count.
use Rattle.parser.proofs.Postfix.{after-new, no-new}
use Rattle.parser.proofs.expr.starts_array.Goals as goal

pub returns-then-kind-eq-NEW : goal.returns-then-kind-eq-NEW
returns-then-kind-eq-NEW c = search after-new

pub returns : goal.returns
returns c = search no-new
