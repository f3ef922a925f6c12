-- `measure` meets its contract: the walk's place says whether a node is too deep.
use Rattle.reader.proofs.Growing.{too-deep, deep-enough}
use Rattle.reader.proofs.read.measure.Goals as goal

pub returns-then-position-lt-NOWHERE : goal.returns-then-position-lt-NOWHERE
returns-then-position-lt-NOWHERE c = too-deep c.program-walked.ensures c.if-position-lt-NOWHERE.true

pub returns : goal.returns
returns c = deep-enough c.program-walked.ensures c.if-position-lt-NOWHERE.false
