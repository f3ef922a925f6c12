-- `player::port::send` meets its contract.
use borrow.Author.Rules.{rules}
use Rattle.player.proofs.Ports.{put-none, put-one, put-register, put-value, puts}
use Rattle.player.proofs.port.send.Goals as goal

pub returns-in_err-n : goal.returns-in_err-n
returns-in_err-n c = search (rules, put-none)

pub returns-in_err-v : goal.returns-in_err-v
returns-in_err-v c = search (rules, put-one, c.in_ok-n.ensures)

pub returns-then-n-ge-REGISTERS : goal.returns-then-n-ge-REGISTERS
returns-then-n-ge-REGISTERS c = put-register c.in_ok-n.ensures c.in_ok-v.ensures c.if-n-ge-REGISTERS.true

pub returns-then-v-ge-BYTES : goal.returns-then-v-ge-BYTES
returns-then-v-ge-BYTES c = put-value c.in_ok-n.ensures c.in_ok-v.ensures c.if-n-ge-REGISTERS.false c.if-v-ge-BYTES.true

pub returns : goal.returns
returns c = puts c.in_ok-n.ensures c.in_ok-v.ensures c.if-n-ge-REGISTERS.false c.if-v-ge-BYTES.false c.put.ensures c.show.ensures
