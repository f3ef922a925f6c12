-- `write_text` meets its contract: what is written is a law of `Joining`.
use Rattle.joiner.proofs.Joining.{text-written}
use Rattle.joiner.proofs.join.write_text.Goals as goal

pub returns : goal.returns
returns c = search text-written
