-- `column` meets its contract: a word of the table is below 2 to the power 32.
use mathlib.Core.Path.{refl}
use native.Mathlib.Omega.{arith}
use Rattle.base.specs.promises.Table.{col}
use Rattle.reader.proofs.walk.column.Goals as goal

pub overflow_cast-result : goal.overflow_cast-result
overflow_cast-result c = omega arith

pub returns : goal.returns
unfolding col
returns c = (refl, omega arith)
