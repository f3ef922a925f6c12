-- `index` meets its contract by its law of `IndexLaws`.
use Rattle.declarations.proofs.IndexLaws.{index_is}
use Rattle.declarations.proofs.index.index.Goals as goal

pub returns : goal.returns
returns c = index_is c.requires.big c.clear.ensures c.word-main.ensures.0 c.word-first.ensures.0 c.entries.ensures
