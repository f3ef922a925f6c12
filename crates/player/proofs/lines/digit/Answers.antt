-- `player::lines::digit` meets its contract.
use borrow.Author.Rules.{rules}
use Rattle.player.proofs.Forward.{figure, letter, below, above, between}
use Rattle.player.proofs.lines.digit.Goals as goal

pub returns-in-48-to-57 : goal.returns-in-48-to-57
returns-in-48-to-57 c = search (rules, figure)

pub returns-in-97-to-102 : goal.returns-in-97-to-102
returns-in-97-to-102 c = search (rules, letter)

pub returns-in_default : goal.returns-in_default
returns-in_default c = search (rules, below)

pub returns-in_default-2 : goal.returns-in_default-2
returns-in_default-2 c = search (rules, above, between, below)

pub returns-in_default-3 : goal.returns-in_default-3
returns-in_default-3 c = search (rules, above, between, below)
