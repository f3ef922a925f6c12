-- The return is a law of `ProgramLaws`.
use Rattle.writer.proofs.ProgramLaws.{main-wrote}
use Rattle.writer.proofs.program.main_code.Goals as goal

pub returns : goal.returns
returns c = search main-wrote
