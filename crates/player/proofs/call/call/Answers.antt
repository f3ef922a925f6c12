-- `player::call::call` meets its contract.
use borrow.Author.Rules.{rules}
use Rattle.player.proofs.Calls.{call_none, call-wrong, calls}
use Rattle.player.proofs.call.call.Goals as goal

pub returns-in_err-r : goal.returns-in_err-r
returns-in_err-r c = search (rules, call_none)

pub returns-in_err-line : goal.returns-in_err-line
returns-in_err-line c = search (rules, call-wrong, c.in_ok-r.ensures)

pub returns : goal.returns
returns c = calls c.in_ok-r.ensures c.in_ok-line.ensures c.enter.ensures
