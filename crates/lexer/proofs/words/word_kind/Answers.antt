-- `lexer::words::word_kind` meets its contract: at each length the words in the code are those of the definition, and there are no others.
use Prim.Native.Nat.{ℕ}
use mathlib.Core.Path.{◌≡◌, ap}
use native.Mathlib.Omega.{arith}
use Rattle.lexer.specs.Kinds.{words}
use Rattle.lexer.specs.promises.Words.{has_length}
use Rattle.lexer.proofs.laws.WordLengths.{no_word}
use Rattle.lexer.proofs.words.word_kind.Goals as goal

-- the reserved words of a length
of-length : {m n : ℕ} → m ≡ n → has_length m words ≡ has_length n words
of-length e = ap (λ (n : ℕ). has_length n words) e

pub kind_among-requires : goal.kind_among-requires
unfolding words
kind_among-requires c = (omega arith, of-length c.in-2.is)

pub kind_among-requires-in-3 : goal.kind_among-requires-in-3
unfolding words
kind_among-requires-in-3 c = (omega arith, of-length c.in-3.is)

pub kind_among-requires-in-4 : goal.kind_among-requires-in-4
unfolding words
kind_among-requires-in-4 c = (omega arith, of-length c.in-4.is)

pub kind_among-requires-in-5 : goal.kind_among-requires-in-5
unfolding words
kind_among-requires-in-5 c = (omega arith, of-length c.in-5.is)

pub kind_among-requires-in-6 : goal.kind_among-requires-in-6
unfolding words
kind_among-requires-in-6 c = (omega arith, of-length c.in-6.is)

pub kind_among-requires-in-7 : goal.kind_among-requires-in-7
unfolding words
kind_among-requires-in-7 c = (omega arith, of-length c.in-7.is)

pub returns-in_default : goal.returns-in_default
returns-in_default c = search no_word
