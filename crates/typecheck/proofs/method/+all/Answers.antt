-- The measure is what is left. Each return is a law of `BodyLaws`.
use Rattle.std.proofs.lemmas.Result.{err_from_is_err_and}
use Rattle.typecheck.proofs.BodyLaws.{classes-end, classes-none, classes-next, classes-refused}
use Rattle.typecheck.proofs.method.+all.Goals as goal

pub returns-then-row-ge-ABSENT : goal.returns-then-row-ge-ABSENT
returns-then-row-ge-ABSENT t c = search classes-end

pub returns-then-left-eq0 : goal.returns-then-left-eq0
returns-then-left-eq0 t c = search classes-none

pub returns : goal.returns
returns t c = search (classes-next, c.in_ok-of_class.was)

pub returns-in_err-of_class : goal.returns-in_err-of_class
returns-in_err-of_class t c =
    let p = err_from_is_err_and c.from_residual.result c.from_residual.ensures.1 in
    rw (p.1, p.2) (search (classes-refused, c.in_err-of_class.was))
