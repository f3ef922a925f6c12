-- `player::port::receive` meets its contract.
use borrow.Author.Rules.{rules}
use Rattle.player.proofs.Ports.{get_none, get-register, gets}
use Rattle.player.proofs.port.receive.Goals as goal

pub returns-in_err-n : goal.returns-in_err-n
returns-in_err-n c = search (rules, get_none)

pub returns-then-n-ge-REGISTERS : goal.returns-then-n-ge-REGISTERS
returns-then-n-ge-REGISTERS c = get-register c.in_ok-n.ensures c.if-n-ge-REGISTERS.true

pub returns : goal.returns
returns c = gets c.in_ok-n.ensures c.if-n-ge-REGISTERS.false c.value-2.ensures c.get.ensures c.show.ensures
