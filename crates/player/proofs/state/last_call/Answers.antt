-- `player::state::last_call` meets its contract.
use borrow.Author.Rules.{rules}
use Rattle.player.proofs.Stacks.{no_call, a-call}
use Rattle.player.proofs.state.last_call.Goals as goal

pub returns-then-m-lt1 : goal.returns-then-m-lt1
returns-then-m-lt1 c = search (rules, no_call)

pub returns : goal.returns
returns c = search (rules, a-call)
