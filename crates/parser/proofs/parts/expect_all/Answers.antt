-- `expect_all` meets its contract: so many kinds have been found one after the other, and what is left is looked for behind them.
use native.Mathlib.Omega.{arith}
use mathlib.Core.Bool.{true}
use mathlib.Core.Path.{◌≡◌, subst}
use Prim.Native.Nat.{ℕ}
use lib.ListN.{get_or}
use Rattle.std.proofs.lemmas.Result.{err_from_is_err_and}
use Rattle.parser.specs.Parse.{accepts}
use Rattle.parser.specs.promises.Post.{kind_in_table}
use Rattle.parser.proofs.Wholes.{found-by}
use Rattle.parser.proofs.Matched.{counted_none, counted-more, counted_whole, counted_part, positive}
use Rattle.parser.proofs.parts.expect_all.Goals as goal

pub loop-wanted-init : goal.loop-wanted-init
loop-wanted-init c = (omega arith, counted_none _ _ _ _)

pub expect-requires : goal.expect-requires
expect-requires c = (c.requires.0, c.requires.1, positive c.args.kinds.now c.loop-wanted.wanted-index c.requires.3 c.loop-wanted-test.true)

pub loop-wanted-preserved : goal.loop-wanted-preserved
loop-wanted-preserved c =
    let f = found-by c.in_ok-next.ensures in (
      omega (arith, f.1, c.loop-wanted.invariant.0),
      counted-more _ _ _ _ c.loop-wanted-test.true c.loop-wanted.invariant.1
          (subst (λ (j : ℕ). accepts (get_or c.args.kinds.now c.loop-wanted.wanted-index 0) (kind_in_table c.args.table.now c.args.n j) ≡ true)
          c.loop-wanted.invariant.0 f.0),
    )

pub returns-in_err-next : goal.returns-in_err-next
returns-in_err-next c =
    let p = err_from_is_err_and c.from_residual.result c.from_residual.ensures.1 in
    rw (p.1, p.2) (counted_part _ _ _ _ c.loop-wanted-test.true c.loop-wanted.invariant.0 c.loop-wanted.invariant.1 c.in_err-next.ensures)

pub returns : goal.returns
returns c = counted_whole _ _ _ _ c.loop-wanted-test.false c.loop-wanted.invariant.0 c.loop-wanted.invariant.1
