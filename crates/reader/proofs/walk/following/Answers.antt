-- `following` meets its contract: each of its three answers is a law of `Lists`.
use Rattle.reader.proofs.Lists.{following-up, following-wrong, following-none}
use Rattle.reader.proofs.walk.following.Goals as goal

pub returns-then-row-next : goal.returns-then-row-next
returns-then-row-next c = search following-up

pub returns-else-row-next : goal.returns-else-row-next
returns-else-row-next c = search following-wrong

pub returns-else-chain : goal.returns-else-chain
returns-else-chain c = search following-none
