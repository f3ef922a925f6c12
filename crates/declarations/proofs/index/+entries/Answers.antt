-- The measure is what is left. Each return is a law of `IndexLaws`.
use Rattle.declarations.proofs.IndexLaws.{entries-none-left, entries-absent, entries-main, entries_twice, entries_next}
use Rattle.declarations.proofs.index.+entries.Goals as goal

pub returns-then-row-ge-ABSENT : goal.returns-then-row-ge-ABSENT
returns-then-row-ge-ABSENT t c = search entries-absent

pub returns-then-left-eq0 : goal.returns-then-left-eq0
returns-then-left-eq0 t c = search entries-none-left

pub returns-then-x-main : goal.returns-then-x-main
returns-then-x-main t c = search entries-main

pub returns-then-word-lt-ABSENT : goal.returns-then-word-lt-ABSENT
returns-then-word-lt-ABSENT t c = search entries_twice

pub returns : goal.returns
returns t c = entries_next c.requires c.if-left-eq0.false c.if-row-ge-ABSENT.false c.word-x.ensures.0 c.if-x-main.false c.word-2.ensures.0 c.if-word-lt-ABSENT.false c.enter.ensures c.word-3.ensures.0 c.entries.ensures
