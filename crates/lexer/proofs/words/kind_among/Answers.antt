-- `lexer::words::kind_among` meets its contract: the words that are left decide, and the first that is equal is the word.
use mathlib.Core.Path.{sym, ◌∙◌}
use lib.ListN.{drop_of_length-le}
use Rattle.lexer.proofs.Reserved.{decide-start, decide-hit, decide-more, decide-end}
use Rattle.lexer.proofs.words.kind_among.Goals as goal

pub loop-word-init : goal.loop-word-init
loop-word-init g c = decide-start c.args.words.now c.args.text.now c.requires

pub returns-then-equal : goal.returns-then-equal
returns-then-equal g c =
    decide-hit c.args.words.now c.args.text.now c.loop-word.word-index c.loop-word-item.result c.loop-word-item.is c.loop-word-test.true c.loop-word.invariant
    (rw (← c.as_slice.ensures) (sym c.equal.ensures ∙ c.if-equal.true))

pub loop-word-preserved : goal.loop-word-preserved
loop-word-preserved g c =
    decide-more c.args.words.now c.args.text.now c.loop-word.word-index c.loop-word-item.result c.loop-word-item.is c.loop-word-test.true c.loop-word.invariant
    (rw (← c.as_slice.ensures) (sym c.equal.ensures ∙ c.if-equal.false))

pub returns : goal.returns
returns g c =
    decide-end c.args.words.now c.args.text.now c.loop-word.word-index (drop_of_length-le c.args.words.now c.loop-word-test.false) c.loop-word.invariant
