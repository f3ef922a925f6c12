-- The return is a law of `ProgramLaws`.
use Rattle.writer.proofs.ProgramLaws.{begun}
use Rattle.writer.proofs.program.begin.Goals as goal

pub returns : goal.returns
returns c = begun _ (c.fill.ensures.after (λ y e. e)) c.sizes.ensures c.fill-2.ensures
