-- `lexer::words::kind_among` meets its contract: the words that are left decide, and the first that is equal is the word.
use Rattle.lexer.proofs.Reserved.{Decide}
use Rattle.lexer.proofs.words.kind_among.Given as goal

abbrev pub invariant-loop-word : goal.invariant-loop-word
invariant-loop-word g l = Decide l.words l.text l.word-index
