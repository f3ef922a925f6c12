-- `printer::strip::skip` meets its contract: past the room nothing is counted.
use native.Mathlib.Omega.{arith}
use Rattle.printer.proofs.strip.skip.Goals as goal

pub returns-then-n-at : goal.returns-then-n-at
returns-then-n-at c = record { within = omega arith; end = λ h. omega arith }

pub returns : goal.returns
returns c = record { within = omega arith; end = λ h. omega arith }
