-- `assign_element` meets its contract. Each return is a law of `Statements`.
use Prim.Native.Nat.{◌+◌}
use native.Mathlib.Omega.{arith}
use mathlib.Core.Path.{refl}
use Rattle.lexer.specs.Kinds.{k_open_bracket}
use Rattle.parser.proofs.Laws.{there}
use Rattle.parser.proofs.Matched.{past}
use Rattle.parser.proofs.Wholes.{passed-on, behind, not-behind, nothing, with-two, refused}
use Rattle.parser.proofs.Statements.{index-bad, value-ok}
use Rattle.parser.proofs.stmt.assign_element.Goals as goal

pub operation-requires : goal.operation-requires
operation-requires c =
    omega (arith, c.requires.0, there c.args.table.now c.args.n (c.args.i + 1) _ k_open_bracket refl c.requires.2 (omega arith))

pub returns-in_err-index : goal.returns-in_err-index
returns-in_err-index c =
    rw (passed-on c.from_residual.ensures.1)
    (index-bad c.requires.0.few c.requires.1 c.requires.2 c.in_err-index.ensures nothing nothing refl)

pub returns-in_err-end : goal.returns-in_err-end
returns-in_err-end c =
    rw (passed-on c.from_residual-in_err-end.ensures.1)
    (index-bad c.requires.0.few c.requires.1 c.requires.2 c.in_ok-index.ensures (not-behind refl c.in_err-end.ensures) nothing refl)

pub returns-in_err-start : goal.returns-in_err-start
returns-in_err-start c =
    rw (passed-on c.from_residual-in_err-start.ensures.1)
    (index-bad c.requires.0.few c.requires.1 c.requires.2 c.in_ok-index.ensures (behind refl c.in_ok-end.ensures) (not-behind refl c.in_err-start.ensures) refl)

pub operation-requires-2 : goal.operation-requires-2
operation-requires-2 c =
    omega (arith, c.requires.0, c.in_ok-index.ensures.within, past (omega arith) c.in_ok-end.ensures, past (omega arith) c.in_ok-start.ensures)

pub returns-in_err-value : goal.returns-in_err-value
returns-in_err-value c =
    rw (passed-on c.from_residual-in_err-value.ensures.1)
    (value-ok c.requires.0.few c.requires.1 c.requires.2 c.in_ok-index.ensures (behind refl c.in_ok-end.ensures) (behind refl c.in_ok-start.ensures) refl c.in_err-value.ensures nothing refused)

pub returns-in_err-next : goal.returns-in_err-next
returns-in_err-next c =
    rw (passed-on c.from_residual-in_err-next.ensures.1)
    (value-ok c.requires.0.few c.requires.1 c.requires.2 c.in_ok-index.ensures (behind refl c.in_ok-end.ensures) (behind refl c.in_ok-start.ensures) refl c.in_ok-value.ensures (not-behind refl c.in_err-next.ensures) refused)

pub node-requires : goal.node-requires
node-requires c =
    omega (arith, c.requires.0, there c.args.table.now c.args.n (c.args.i + 1) _ k_open_bracket refl c.requires.2 (omega arith), c.in_ok-index.ensures.within, c.in_ok-value.ensures.within)

pub returns : goal.returns
returns c =
    value-ok c.requires.0.few c.requires.1 c.requires.2 c.in_ok-index.ensures (behind refl c.in_ok-end.ensures) (behind refl c.in_ok-start.ensures) refl c.in_ok-value.ensures (behind refl c.in_ok-next.ensures) (with-two c.args.i _ c.node.ensures)
