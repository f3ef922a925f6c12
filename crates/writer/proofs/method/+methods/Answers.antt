-- The methods of a class: the measure is how many may still come.
use Rattle.writer.proofs.MethodLaws.{methods-none, methods-end, methods-more}
use borrow.Author.Rules.{rules}
use Rattle.writer.proofs.method.+methods.Goals as goal

pub returns-then-p-eq0 : goal.returns-then-p-eq0
returns-then-p-eq0 t c = search methods-none

pub returns-then-p-ge-ABSENT : goal.returns-then-p-ge-ABSENT
returns-then-p-ge-ABSENT t c = search methods-end

pub methods-requires : goal.methods-requires
methods-requires t c = (search rules, search rules)

pub returns : goal.returns
returns t c =
    methods-more c.if-p-eq0.false c.if-p-ge-ABSENT.false c.enter.ensures c.method-a.ensures c.part-rest.ensures
    c.methods.ensures
