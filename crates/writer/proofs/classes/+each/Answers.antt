-- The measure is how many classes may still come. Each return is a law of `ClassLaws`.
use borrow.Author.Rules.{rules}
use Rattle.writer.proofs.ClassLaws.{classes-none, classes-end, classes-more}
use Rattle.writer.proofs.classes.+each.Goals as goal

pub returns-then-p-eq0 : goal.returns-then-p-eq0
returns-then-p-eq0 t c = search classes-none

pub returns-then-p-ge-ABSENT : goal.returns-then-p-ge-ABSENT
returns-then-p-ge-ABSENT t c = search classes-end

pub each-requires : goal.each-requires
each-requires t c = (search rules, (search rules, search rules, search rules, search rules, search rules))

pub returns : goal.returns
returns t c = search classes-more
