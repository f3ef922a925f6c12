-- `player::port::mark` meets its contract.
use borrow.Author.Rules.{rules}
use Rattle.player.proofs.Ports.{marks-on, marks-hundredth}
use Rattle.player.proofs.port.mark.Goals as goal

pub returns-then-marks-lt-PERIOD : goal.returns-then-marks-lt-PERIOD
returns-then-marks-lt-PERIOD c = search (rules, marks-on)

pub returns : goal.returns
returns c = marks-hundredth (search rules) c.if-marks-lt-PERIOD.false c.sampled-taken.ensures
