-- The measure is what is left. Each return is a law of `FieldLaws`.
use borrow.Author.Rules.{rules}
use Rattle.lookup.proofs.FieldLaws.{climb-none-left, climb-top, climb-more}
use Rattle.lookup.proofs.fields.+climb.Goals as goal

pub returns-then-left-eq0 : goal.returns-then-left-eq0
returns-then-left-eq0 t c = search climb-none-left

pub returns-then-class-ge-ABSENT : goal.returns-then-class-ge-ABSENT
returns-then-class-ge-ABSENT t c = search climb-top

pub returns : goal.returns
returns t c =
    climb-more
    c.word-class.ensures.0
    (search rules) (search rules) (search rules)
    c.word-first.ensures.0
    c.above.ensures
    c.climb-at.ensures
    c.own.ensures
    c.count.ensures
