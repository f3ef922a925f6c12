-- `class_row` meets its contract: three words are written.
use Rattle.parser.specs.promises.Layout.{class_row_lem}
use Rattle.parser.proofs.decl.class_row.Goals as goal

pub returns : goal.returns
unfolding class_row_lem
returns c = cc
