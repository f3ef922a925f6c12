-- Each return is a law of `NameLaws`.
use Rattle.encoder.proofs.NameLaws.{declare-known, declare-new}
use Rattle.encoder.proofs.names.declare.Goals as goal

pub returns-then-cell-lt-NONE : goal.returns-then-cell-lt-NONE
returns-then-cell-lt-NONE c = search declare-known

pub returns : goal.returns
returns c = search declare-new
