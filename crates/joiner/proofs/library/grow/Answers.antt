-- `grow` meets its contract: each return is a law of `Filling`.
use Rattle.joiner.proofs.Filling.{grow-at, grow-bad}
use Rattle.joiner.proofs.library.grow.Goals as goal

pub returns-in-Ok : goal.returns-in-Ok
returns-in-Ok c = search grow-at

pub returns-in-Err : goal.returns-in-Err
returns-in-Err c = search grow-bad
