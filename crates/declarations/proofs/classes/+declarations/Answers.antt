-- The measure is what is left. Each return is a law of `ClassLaws`.
use borrow.Author.Rules.{rules}
use Rattle.std.proofs.lemmas.Result.{err_from_is_err_and}
use Rattle.declarations.proofs.ClassLaws.{declarations-none-left, declarations-absent, declarations-next, declarations-stop}
use Rattle.declarations.proofs.classes.+declarations.Goals as goal

pub returns-then-row-ge-ABSENT : goal.returns-then-row-ge-ABSENT
returns-then-row-ge-ABSENT t c = search declarations-absent

pub returns-then-left-eq0 : goal.returns-then-left-eq0
returns-then-left-eq0 t c = search declarations-none-left

pub declarations-requires : goal.declarations-requires
declarations-requires t c =
    (search rules, (search rules, search rules, c.members.ensures.below, search rules))

pub returns : goal.returns
returns t c = search (declarations-next, c.in_ok-members.was)

pub returns-in_err-members : goal.returns-in_err-members
returns-in_err-members t c =
    let p = err_from_is_err_and c.from_residual.result c.from_residual.ensures.1 in
    rw (p.1, p.2) (search (declarations-stop, c.in_err-members.was))
