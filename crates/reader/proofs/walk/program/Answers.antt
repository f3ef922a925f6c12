-- `program` meets its contract: main's statement, and the classes.
use Rattle.reader.proofs.Declarations.{program-whole}
use Rattle.reader.proofs.walk.program.Goals as goal

pub returns : goal.returns
returns c = search program-whole
