-- `lexer::names::bucket` meets its contract: the bytes so far decide with those left.
use mathlib.Core.Path.{refl}
use native.Mathlib.Omega.{arith}
use Rattle.lexer.proofs.Folds.{hashed-more, hashed-end}
use Rattle.lexer.proofs.names.bucket.Goals as goal

pub loop-b-init : goal.loop-b-init
loop-b-init c = record { within = omega arith; small = omega arith; left = refl }

pub loop-b-preserved : goal.loop-b-preserved
loop-b-preserved c = hashed-more c.loop-b-test.true c.loop-b.invariant

pub returns : goal.returns
returns c = hashed-end c.loop-b-test.false c.loop-b.invariant
