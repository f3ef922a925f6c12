-- `place` meets its contract: `c_start` has the positions of the tokens.
use borrow.Author.Tests.{lt-ltb, le-ltb}
use native.Mathlib.Omega.{arith}
use Rattle.base.specs.promises.Table.{col}
use Rattle.reader.specs.promises.ReadPost.{place_in}
use Rattle.reader.proofs.read.place.Goals as goal

pub overflow_cast-result : goal.overflow_cast-result
overflow_cast-result c = omega arith

pub returns-then-k-n : goal.returns-then-k-n
unfolding place_in col
returns-then-k-n c = simp (lt-ltb _ _ c.if-k-n.true)

pub returns : goal.returns
unfolding place_in
returns c = simp (le-ltb _ _ c.if-k-n.false)
