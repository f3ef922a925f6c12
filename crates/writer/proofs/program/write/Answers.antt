-- The return is a law of `ProgramLaws`.
use Rattle.writer.proofs.ProgramLaws.{all-wrote}
use Rattle.writer.proofs.program.write.Goals as goal

pub returns : goal.returns
returns c = search all-wrote
