-- `lexer::limits::whole_end` meets its contract: the digits end at the first byte that is none, or at the end.
use native.Mathlib.Nat.{zero-add}
use mathlib.Core.Path.{refl, sym, ◌∙◌}
use native.Mathlib.Omega.{arith}
use Rattle.lexer.proofs.Runs.{running_more, running-stop, running-end}
use Rattle.lexer.proofs.limits.whole_end.Goals as goal

pub loop-i-init : goal.loop-i-init
loop-i-init c = record { within = omega arith; left = refl }

pub returns-then-not-is_digit : goal.returns-then-not-is_digit
returns-then-not-is_digit c =
    running-stop c.loop-i-test.true (sym c.is_digit.ensures ∙ c.if-not-is_digit.true) c.loop-i.invariant ∙ zero-add _

pub loop-i-preserved : goal.loop-i-preserved
loop-i-preserved c =
    running_more c.loop-i-test.true (sym c.is_digit.ensures ∙ c.if-not-is_digit.false) c.loop-i.invariant

pub returns : goal.returns
returns c = omega (arith, running-end c.loop-i-test.false c.loop-i.invariant, c.loop-i.auto.i-end, c.loop-i-test.false)
