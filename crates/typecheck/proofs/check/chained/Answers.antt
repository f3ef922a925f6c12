-- Each return is a law of `VerdictLaws`. The array is new, so no height is known yet.
use borrow.Author.Rules.{rules}
use Rattle.base.specs.promises.Table.{rows}
use Rattle.declarations.specs.promises.Climbs.{none-known}
use Rattle.std.proofs.lemmas.Result.{err_from_is_err_and}
use Rattle.typecheck.proofs.VerdictLaws.{chained-contents, chained_refused}
use Rattle.typecheck.proofs.check.chained.Goals as goal

pub chains-requires : goal.chains-requires
chains-requires c = (search rules, search rules, search rules, none-known _ rows)

pub returns : goal.returns
returns c = search (chained-contents, c.in_ok-chains.was)

pub returns-in_err-chains : goal.returns-in_err-chains
returns-in_err-chains c =
    let p = err_from_is_err_and c.from_residual.result c.from_residual.ensures.1 in
    rw (p.1, p.2) (search (chained_refused, c.in_err-chains.was))
