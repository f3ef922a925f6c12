-- Each return is a law of `VerdictLaws`.
use Rattle.base.specs.promises.Table.{rows}
use borrow.Author.Rules.{rules}
use Rattle.std.proofs.lemmas.Result.{err_from_is_err_and}
use Rattle.typecheck.proofs.VerdictLaws.{zeros-below, contents-bodies, contents-refused}
use Rattle.typecheck.proofs.check.contents.Goals as goal

pub declarations-requires : goal.declarations-requires
declarations-requires c = (search rules, search rules, zeros-below rows, search rules)

pub returns : goal.returns
returns c = search (contents-bodies, c.in_ok-declarations.was)

pub returns-in_err-declarations : goal.returns-in_err-declarations
returns-in_err-declarations c =
    let p = err_from_is_err_and c.from_residual.result c.from_residual.ensures.1 in
    rw (p.1, p.2) (search (contents-refused, c.in_err-declarations.was))
