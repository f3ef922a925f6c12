-- `lexer::scan::run_end` meets its contract: the run ends at the first byte of another class, or at the end.
use mathlib.Core.Path.{refl, sym, ◌∙◌}
use native.Mathlib.Omega.{arith}
use Rattle.lexer.proofs.Runs.{running_more, running-stop, running-end}
use Rattle.lexer.proofs.scan.run_end.Goals as goal

pub loop-i-init : goal.loop-i-init
loop-i-init c = record { within = c.requires.1; left = refl }

pub returns-then-not-belongs : goal.returns-then-not-belongs
returns-then-not-belongs c =
    running-stop c.loop-i-test.true (sym c.belongs.ensures ∙ c.if-not-belongs.true) c.loop-i.invariant

pub loop-i-preserved : goal.loop-i-preserved
loop-i-preserved c =
    running_more c.loop-i-test.true (sym c.belongs.ensures ∙ c.if-not-belongs.false) c.loop-i.invariant

pub returns : goal.returns
returns c = omega (arith, running-end c.loop-i-test.false c.loop-i.invariant, c.loop-i.invariant.within, c.loop-i-test.false)
