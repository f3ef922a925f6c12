-- `player::row::back` meets its contract.
use borrow.Author.Rules.{rules}
use Rattle.player.proofs.Rows.{return-operand, return-outside, return-none}
use Rattle.player.proofs.Rows as Rows
use Rattle.player.proofs.row.back.Goals as goal

pub returns-in_err-no_operand : goal.returns-in_err-no_operand
returns-in_err-no_operand c = search (rules, return-operand)

pub returns-in_err-c : goal.returns-in_err-c
returns-in_err-c c = search (rules, return-outside, c.in_ok-no_operand.ensures)

pub returns-in_err-r : goal.returns-in_err-r
returns-in_err-r c = search (rules, return-none, c.in_ok-no_operand.ensures, c.in_ok-c.ensures)

pub returns : goal.returns
returns c = Rows.returns c.in_ok-no_operand.ensures c.in_ok-c.ensures c.in_ok-r.ensures
