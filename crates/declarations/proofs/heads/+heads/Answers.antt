-- The measure is what is left. Each return is a law of `HeadLaws`.
use borrow.Author.Rules.{rules}
use Rattle.std.proofs.lemmas.Result.{err_from_is_err_and}
use Rattle.declarations.proofs.HeadLaws.{heads-none-left, heads-absent, heads-next, heads-stop}
use Rattle.declarations.proofs.heads.+heads.Goals as goal

pub returns-then-row-ge-ABSENT : goal.returns-then-row-ge-ABSENT
returns-then-row-ge-ABSENT t c = search heads-absent

pub returns-then-left-eq0 : goal.returns-then-left-eq0
returns-then-left-eq0 t c = search heads-none-left

pub heads-requires : goal.heads-requires
heads-requires t c = (search rules, (search rules, search rules))

pub returns : goal.returns
returns t c = search (heads-next, c.in_ok-head.was)

pub returns-in_err-head : goal.returns-in_err-head
returns-in_err-head t c =
    let p = err_from_is_err_and c.from_residual.result c.from_residual.ensures.1 in
    rw (p.1, p.2) (search (heads-stop, c.in_err-head.was))
