-- `clear` meets its contract: after i turns the first i rows are cleared.
use Rattle.declarations.proofs.IndexLaws.{clear_none, clear-more, clear-all}
use Rattle.declarations.proofs.index.clear.Goals as goal

pub loop-i-init : goal.loop-i-init
loop-i-init c = clear_none c.args.table.now c.args.n

pub loop-i-preserved : goal.loop-i-preserved
loop-i-preserved c = search clear-more

pub returns : goal.returns
returns c = search clear-all
