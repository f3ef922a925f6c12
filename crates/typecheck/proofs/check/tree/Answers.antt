-- Each return is a law of `VerdictLaws`.
use Rattle.std.proofs.lemmas.Result.{err_from_is_err_and}
use Rattle.typecheck.proofs.VerdictLaws.{tree-indexed, tree-refused}
use Rattle.typecheck.proofs.check.tree.Goals as goal

pub returns : goal.returns
returns c = search (tree-indexed, c.in_ok-index.was)

pub returns-in_err-index : goal.returns-in_err-index
returns-in_err-index c =
    let p = err_from_is_err_and c.from_residual.result c.from_residual.ensures.1 in
    rw (p.1, p.2) (search (tree-refused, c.in_err-index.was))
