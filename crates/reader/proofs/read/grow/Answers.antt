-- `grow` meets its contract: each return is a law of `Growing`.
use Rattle.reader.proofs.Growing.{grow-at, grow-bad}
use Rattle.reader.proofs.read.grow.Goals as goal

pub returns-in-Ok : goal.returns-in-Ok
returns-in-Ok c = grow-at c.program.ensures c.requires.few c.requires.big c.in-Ok.is c.measure.ensures

pub returns-in-Err : goal.returns-in-Err
returns-in-Err c = grow-bad c.program.ensures c.requires.few c.in-Err.is c.place-position.ensures
