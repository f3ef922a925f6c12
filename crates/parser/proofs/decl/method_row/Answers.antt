-- `method_row` meets its contract: four words are written.
use Rattle.parser.specs.promises.Layout.{method_row_lem}
use Rattle.parser.proofs.decl.method_row.Goals as goal

pub returns : goal.returns
unfolding method_row_lem
returns c = cc
