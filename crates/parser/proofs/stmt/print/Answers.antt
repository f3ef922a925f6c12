-- `print` meets its contract. Each return is a law of `Statements`; that the head is there is `head-there`.
use native.Mathlib.Omega.{arith}
use mathlib.Core.Path.{refl}
use Rattle.lexer.specs.Kinds.{k_system}
use Rattle.parser.specs.Parse.{print_head}
use Rattle.parser.proofs.Laws.{there}
use Rattle.parser.proofs.Heads.{head-there}
use Rattle.parser.proofs.Wholes.{passed-on, behind, not-behind, nothing, with-one, refused}
use Rattle.parser.proofs.Statements.{print-head, print-ok}
use Rattle.parser.proofs.stmt.print.Goals as goal

pub expect_all-requires : goal.expect_all-requires
expect_all-requires c =
    omega (arith, c.requires.0, there c.args.table.now c.args.n c.args.i _ k_system refl c.requires.1 (omega arith))

pub returns-in_err-start : goal.returns-in_err-start
returns-in_err-start c =
    rw (passed-on c.from_residual.ensures.1)
    (print-head c.requires.1 c.in_err-start.ensures)

pub operation-requires : goal.operation-requires
operation-requires c =
    omega (arith, c.requires.0, head-there print_head (omega arith) (omega arith) c.requires.1 c.in_ok-start.ensures)

pub returns-in_err-value : goal.returns-in_err-value
returns-in_err-value c =
    rw (passed-on c.from_residual-in_err-value.ensures.1)
    (print-ok c.requires.1 c.requires.0.few c.in_ok-start.ensures c.in_err-value.ensures nothing nothing refused)

pub returns-in_err-end : goal.returns-in_err-end
returns-in_err-end c =
    rw (passed-on c.from_residual-in_err-end.ensures.1)
    (print-ok c.requires.1 c.requires.0.few c.in_ok-start.ensures c.in_ok-value.ensures (not-behind refl c.in_err-end.ensures) nothing refused)

pub returns-in_err-next : goal.returns-in_err-next
returns-in_err-next c =
    rw (passed-on c.from_residual-in_err-next.ensures.1)
    (print-ok c.requires.1 c.requires.0.few c.in_ok-start.ensures c.in_ok-value.ensures (behind refl c.in_ok-end.ensures) (not-behind refl c.in_err-next.ensures) refused)

pub node-requires : goal.node-requires
node-requires c =
    omega (arith, c.requires.0, there c.args.table.now c.args.n c.args.i _ k_system refl c.requires.1 (omega arith), c.in_ok-value.ensures.within)

pub returns : goal.returns
returns c =
    print-ok c.requires.1 c.requires.0.few c.in_ok-start.ensures c.in_ok-value.ensures (behind refl c.in_ok-end.ensures) (behind refl c.in_ok-next.ensures) (with-one c.node.ensures)
