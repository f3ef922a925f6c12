-- `printer::strip::spell` meets its contract: so far as the loop has come, the text is written.
use Rattle.std.proofs.Common.{rules}
use Rattle.printer.specs.laws.PutLaws.{puts-next, puts-whole, puts-counted}
use Rattle.printer.proofs.strip.spell.Goals as goal

pub returns-then-is_empty : goal.returns-then-is_empty
returns-then-is_empty c = puts-counted _ _ _ (search rules) c.skip.ensures

pub loop-b-preserved : goal.loop-b-preserved
loop-b-preserved c = search puts-next

pub returns : goal.returns
returns c = search puts-whole
