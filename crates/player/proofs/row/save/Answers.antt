-- `player::row::save` meets its contract.
use borrow.Author.Rules.{rules}
use Rattle.player.proofs.Rows.{save-none, save-outside, saves-row, save-nowhere, saves-field}
use Rattle.player.proofs.row.save.Goals as goal

pub returns-in_err-v : goal.returns-in_err-v
returns-in_err-v c = search (rules, save-none)

pub returns-in_err-c : goal.returns-in_err-c
returns-in_err-c c = search (rules, save-outside, c.in_ok-v.ensures)

pub returns-then-place-lt-ROW : goal.returns-then-place-lt-ROW
returns-then-place-lt-ROW c = saves-row c.in_ok-v.ensures c.in_ok-c.ensures c.if-place-lt-ROW.true

pub returns-in_err-j : goal.returns-in_err-j
returns-in_err-j c = search (rules, save-nowhere, c.in_ok-v.ensures, c.in_ok-c.ensures)

pub returns : goal.returns
returns c = saves-field c.in_ok-v.ensures c.in_ok-c.ensures c.if-place-lt-ROW.false c.in_ok-j.ensures c.put_cell.ensures
