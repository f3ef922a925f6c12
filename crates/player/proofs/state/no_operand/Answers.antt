-- `player::state::no_operand` meets its contract.
use borrow.Author.Rules.{rules}
use Rattle.player.proofs.Stacks.{an-operand, no_operand_is}
use Rattle.player.proofs.state.no_operand.Goals as goal

pub returns-then-x-gt0 : goal.returns-then-x-gt0
returns-then-x-gt0 c = search (rules, an-operand)

pub returns : goal.returns
returns c = search (rules, no_operand_is)
