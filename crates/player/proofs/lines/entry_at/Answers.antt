-- `player::lines::entry_at` meets its contract.
use borrow.Author.Rules.{rules}
use Rattle.player.proofs.Lining.{no-entry-past, no-entry, an-entry}
use Rattle.player.proofs.lines.entry_at.Goals as goal

pub returns-then-around-i : goal.returns-then-around-i
returns-then-around-i c = search (rules, no-entry-past)

pub returns-then-line-ne-ENTRY : goal.returns-then-line-ne-ENTRY
returns-then-line-ne-ENTRY c = search (rules, no-entry)

pub returns : goal.returns
returns c = search (rules, an-entry)
