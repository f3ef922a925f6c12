-- Each return is a law of `VerdictLaws`.
use native.Mathlib.Omega.{arith}
use Rattle.std.proofs.lemmas.Result.{err_from_is_err_and}
use Rattle.typecheck.proofs.VerdictLaws.{find-tree, find-refused, find-few}
use Rattle.typecheck.proofs.check.find.Goals as goal

pub tree-requires : goal.tree-requires
tree-requires c = omega (arith, find-few c.args.source.now c.fill.result c.fill.new.table c.fill.ensures c.in_ok-counts.was)

pub returns : goal.returns
returns c = find-tree c.args.source.now c.fill.result c.fill.new.table c.fill.ensures c.in_ok-counts.was c.tree.ensures

pub returns-in_err-counts : goal.returns-in_err-counts
returns-in_err-counts c =
    let p = err_from_is_err_and c.from_residual.result c.from_residual.ensures.1 in
    rw (p.1, p.2) (find-refused c.args.source.now c.fill.result c.fill.new.table c.fill.ensures _ _ c.in_err-counts.was)
