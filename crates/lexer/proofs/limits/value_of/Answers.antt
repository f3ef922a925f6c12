-- `lexer::limits::value_of` meets its contract: the value so far decides with the digits left, and a value that is too large stays so.
use mathlib.Core.Path.{refl}
use native.Mathlib.Omega.{arith}
use Rattle.lexer.proofs.Folds.{summed-more, summed-past, summed-end}
use Rattle.lexer.proofs.limits.value_of.Goals as goal

pub loop-b-init : goal.loop-b-init
loop-b-init c = record { within = omega arith; small = c.requires; left = refl }

pub returns-then-high-gt-LITERAL_MOST : goal.returns-then-high-gt-LITERAL_MOST
returns-then-high-gt-LITERAL_MOST c = summed-past c.loop-b-test.true c.digit.ensures c.loop-b.invariant c.if-high-gt-LITERAL_MOST.true

pub loop-b-preserved : goal.loop-b-preserved
loop-b-preserved c = summed-more c.loop-b-test.true c.digit.ensures c.loop-b.invariant c.if-high-gt-LITERAL_MOST.false

pub returns : goal.returns
returns c = summed-end c.loop-b-test.false c.loop-b.invariant
