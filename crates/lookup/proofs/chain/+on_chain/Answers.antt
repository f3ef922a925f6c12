-- The measure is what is left. Each return is a law of `ClimbLaws`.
use Rattle.lookup.proofs.ClimbLaws.{chain-no-more, chain-no-class, chain-here, chain_next}
use Rattle.lookup.proofs.chain.+on_chain.Goals as goal

pub returns-then-left-eq0 : goal.returns-then-left-eq0
returns-then-left-eq0 t c = search chain-no-more

pub returns-then-class-ge-ABSENT : goal.returns-then-class-ge-ABSENT
returns-then-class-ge-ABSENT t c = search chain-no-class

pub returns-then-c-d : goal.returns-then-c-d
returns-then-c-d t c = search chain-here

pub returns : goal.returns
returns t c = search chain_next
