-- `player::heap::header` meets its contract.
use borrow.Author.Rules.{rules}
use Rattle.player.proofs.Heaps.{null, unmade, refers}
use Rattle.player.proofs.heap.header.Goals as goal

pub returns-then-reference-lt1 : goal.returns-then-reference-lt1
returns-then-reference-lt1 c = search (rules, null)

pub returns-then-words-at : goal.returns-then-words-at
returns-then-words-at c = search (rules, unmade)

pub returns : goal.returns
returns c = search (rules, refers)
