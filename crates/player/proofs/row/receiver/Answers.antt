-- `player::row::receiver` meets its contract.
use borrow.Author.Rules.{rules}
use Rattle.player.proofs.Rows.{self-operand, self-full, self-outside, self-none, selves}
use Rattle.player.proofs.row.receiver.Goals as goal

pub returns-in_err-no_operand : goal.returns-in_err-no_operand
returns-in_err-no_operand c = search (rules, self-operand)

pub returns-in_err-top : goal.returns-in_err-top
returns-in_err-top c = search (rules, self-full, c.in_ok-no_operand.ensures)

pub returns-in_err-c : goal.returns-in_err-c
returns-in_err-c c = search (rules, self-outside, c.in_ok-no_operand.ensures, c.in_ok-top.ensures)

pub returns-in_err-r : goal.returns-in_err-r
returns-in_err-r c = search (rules, self-none, c.in_ok-no_operand.ensures, c.in_ok-top.ensures, c.in_ok-c.ensures)

pub returns : goal.returns
returns c = selves c.in_ok-no_operand.ensures c.in_ok-top.ensures c.in_ok-c.ensures c.in_ok-r.ensures
