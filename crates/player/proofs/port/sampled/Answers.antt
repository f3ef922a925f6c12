-- `player::port::sampled` meets its contract.
use borrow.Author.Rules.{rules}
use Rattle.player.proofs.Ports.{takes_one}
use Rattle.player.proofs.port.sampled.Goals as goal

pub returns-then-taken-tape : goal.returns-then-taken-tape
returns-then-taken-tape c = search (rules, takes_one)
