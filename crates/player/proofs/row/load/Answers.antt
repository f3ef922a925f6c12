-- `player::row::load` meets its contract.
use borrow.Author.Rules.{rules}
use Rattle.player.proofs.Rows.{load-full, load-outside, load-none, loads}
use Rattle.player.proofs.row.load.Goals as goal

pub returns-in_err-top : goal.returns-in_err-top
returns-in_err-top c = search (rules, load-full)

pub returns-in_err-c : goal.returns-in_err-c
returns-in_err-c c = search (rules, load-outside, c.in_ok-top.ensures)

pub returns-in_err-v : goal.returns-in_err-v
returns-in_err-v c = search (rules, load-none, c.in_ok-top.ensures, c.in_ok-c.ensures)

pub returns : goal.returns
returns c = loads c.in_ok-top.ensures c.in_ok-c.ensures c.in_ok-v.ensures
