-- All samples that are due come to the last that was on the tape.
use Rattle.std.proofs.Common.{rules}
use Rattle.device.proofs.CatchLaws.{looks-last, looks-none, lesser}
use Rattle.device.proofs.state.sample.Goals as goal

pub returns-then-taken-last : goal.returns-then-taken-last
returns-then-taken-last c = search (looks-last, lesser, rules)

pub returns-else-taken-last : goal.returns-else-taken-last
returns-else-taken-last c = search (looks-none, lesser, rules)
