-- `player::port::print` meets its contract.
use borrow.Author.Rules.{rules}
use Rattle.player.proofs.Heaps.{print-none, print-full, prints}
use Rattle.player.proofs.port.print.Goals as goal

pub returns-in_err-v : goal.returns-in_err-v
returns-in_err-v c = search (rules, print-none)

pub returns-then-output-m : goal.returns-then-output-m
returns-then-output-m c = print-full c.in_ok-v.ensures c.if-output-m.true

pub returns : goal.returns
returns c = prints c.in_ok-v.ensures c.if-output-m.false c.put_cell.ensures
