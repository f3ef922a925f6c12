-- `lexer::names::lookup` meets its contract: each turn passes one row of the chain, and the links fall.
use Rattle.lexer.specs.promises.Chains.{Sought}
use Rattle.lexer.proofs.names.lookup.Given as goal

abbrev pub invariant-loop-link : goal.invariant-loop-link
invariant-loop-link l = Sought l.source l.table l.count l.link l.text

abbrev pub decreases-loop-link : goal.decreases-loop-link
decreases-loop-link l = l.link
