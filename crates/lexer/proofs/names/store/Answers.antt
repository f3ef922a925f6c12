-- `lexer::names::store` meets its contract: five stores, one in each column.
use native.Mathlib.Nat.{zero-add}
use native.Mathlib.Omega.{arith}
use lib.ListN.{length-set}
use Rattle.base.specs.promises.Table.{put}
use Rattle.lexer.specs.promises.Chains.{stored_row}
use Rattle.lexer.proofs.names.store.Goals as goal

pub bounds-table-i-2 : goal.bounds-table-i-2
bounds-table-i-2 c = simp length-set (omega arith)

pub bounds-table-i-3 : goal.bounds-table-i-3
bounds-table-i-3 c = simp length-set (omega arith)

pub bounds-table-i-4 : goal.bounds-table-i-4
bounds-table-i-4 c = simp length-set (omega arith)

pub bounds-table-i-5 : goal.bounds-table-i-5
bounds-table-i-5 c = simp length-set (omega arith)

pub shape_of-table : goal.shape_of-table
shape_of-table c = simp length-set

pub returns : goal.returns
unfolding stored_row put
returns c = simp zero-add
