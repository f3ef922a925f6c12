-- `word` meets its contract: a word of the table is below 2 to the power 32.
use native.Mathlib.Omega.{arith}
use Rattle.lookup.specs.laws.HeldLaws.{word_in, word_out}
use mathlib.Core.Path.{refl, sym}
use Rattle.base.specs.promises.Table.{col}
use Rattle.lookup.proofs.rows.word.Goals as goal

pub overflow_cast-result : goal.overflow_cast-result
overflow_cast-result c = omega arith

pub returns-then-row-lt-ABSENT : goal.returns-then-row-lt-ABSENT
unfolding col
returns-then-row-lt-ABSENT c = (sym (word_in c.args.table.now c.args.k c.args.row c.if-row-lt-ABSENT.true refl), omega arith)

pub returns : goal.returns
returns c = (sym (word_out c.args.table.now c.args.k c.args.row c.if-row-lt-ABSENT.false), omega arith)
