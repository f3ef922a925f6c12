-- What is written is the code of what Check left in the table.
use Rattle.writer.proofs.PrepareLaws.{prepared}
use Rattle.writer.proofs.prepare.prepare.Goals as goal

pub returns : goal.returns
returns c = search prepared
