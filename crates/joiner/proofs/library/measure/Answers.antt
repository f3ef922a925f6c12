-- `measure` meets its contract: the walk's place says whether a node is too deep.
use Rattle.joiner.proofs.Filling.{too-deep, deep-enough}
use Rattle.joiner.proofs.library.measure.Goals as goal

pub returns-then-place-lt-NOWHERE : goal.returns-then-place-lt-NOWHERE
returns-then-place-lt-NOWHERE c = too-deep c.classes-walked.ensures c.if-place-lt-NOWHERE.true

pub returns : goal.returns
returns c = deep-enough c.classes-walked.ensures c.if-place-lt-NOWHERE.false
