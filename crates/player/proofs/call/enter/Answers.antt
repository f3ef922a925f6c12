-- `player::call::enter` meets its contract.
use borrow.Author.Rules.{rules}
use Rattle.player.proofs.Calls.{calls-full, enters}
use Rattle.player.proofs.call.enter.Goals as goal

pub returns-then-limit-m : goal.returns-then-limit-m
returns-then-limit-m c = search (rules, calls-full)

pub returns : goal.returns
returns c = enters c.if-limit-m.false c.open_call.ensures
