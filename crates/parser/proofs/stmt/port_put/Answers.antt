-- `port_put` meets its contract. Each return is a law of `Statements`; that the head is there is `head-there`.
use native.Mathlib.Omega.{arith}
use mathlib.Core.Path.{refl}
use Rattle.lexer.specs.Kinds.{k_port}
use Rattle.parser.specs.Parse.{put_head}
use Rattle.parser.proofs.Laws.{there}
use Rattle.parser.proofs.Matched.{past}
use Rattle.parser.proofs.Heads.{head-there}
use Rattle.parser.proofs.Wholes.{passed-on, behind, not-behind, nothing, with-two, refused}
use Rattle.parser.proofs.Statements.{put-head, register-bad, put-ok}
use Rattle.parser.proofs.stmt.port_put.Goals as goal

pub expect_member-requires : goal.expect_member-requires
expect_member-requires c =
    omega (arith, c.requires.0, there c.args.table.now c.args.n c.args.i _ k_port refl c.requires.1 (omega arith))

pub returns-in_err-start : goal.returns-in_err-start
returns-in_err-start c =
    rw (passed-on c.from_residual.ensures.1)
    (put-head c.requires.1 c.in_err-start.ensures)

pub operation-requires : goal.operation-requires
operation-requires c =
    omega (arith, c.requires.0, head-there put_head (omega arith) (omega arith) c.requires.1 c.in_ok-start.ensures)

pub returns-in_err-register : goal.returns-in_err-register
returns-in_err-register c =
    rw (passed-on c.from_residual-in_err-register.ensures.1)
    (register-bad c.requires.0.few c.requires.1 c.in_ok-start.ensures c.in_err-register.ensures nothing refl)

pub returns-in_err-second : goal.returns-in_err-second
returns-in_err-second c =
    rw (passed-on c.from_residual-in_err-second.ensures.1)
    (register-bad c.requires.0.few c.requires.1 c.in_ok-start.ensures c.in_ok-register.ensures (not-behind refl c.in_err-second.ensures) refl)

pub operation-requires-2 : goal.operation-requires-2
operation-requires-2 c =
    omega (arith, c.requires.0, c.in_ok-register.ensures.within, past (omega arith) c.in_ok-second.ensures)

pub returns-in_err-value : goal.returns-in_err-value
returns-in_err-value c =
    rw (passed-on c.from_residual-in_err-value.ensures.1)
    (put-ok c.requires.0.few c.requires.1 c.in_ok-start.ensures c.in_ok-register.ensures (behind refl c.in_ok-second.ensures) refl c.in_err-value.ensures nothing nothing refused)

pub returns-in_err-end : goal.returns-in_err-end
returns-in_err-end c =
    rw (passed-on c.from_residual-in_err-end.ensures.1)
    (put-ok c.requires.0.few c.requires.1 c.in_ok-start.ensures c.in_ok-register.ensures (behind refl c.in_ok-second.ensures) refl c.in_ok-value.ensures (not-behind refl c.in_err-end.ensures) nothing refused)

pub returns-in_err-next : goal.returns-in_err-next
returns-in_err-next c =
    rw (passed-on c.from_residual-in_err-next.ensures.1)
    (put-ok c.requires.0.few c.requires.1 c.in_ok-start.ensures c.in_ok-register.ensures (behind refl c.in_ok-second.ensures) refl c.in_ok-value.ensures (behind refl c.in_ok-end.ensures) (not-behind refl c.in_err-next.ensures) refused)

pub node-requires : goal.node-requires
node-requires c =
    omega (arith, c.requires.0, there c.args.table.now c.args.n c.args.i _ k_port refl c.requires.1 (omega arith), c.in_ok-register.ensures.within, c.in_ok-value.ensures.within)

pub returns : goal.returns
returns c =
    put-ok c.requires.0.few c.requires.1 c.in_ok-start.ensures c.in_ok-register.ensures (behind refl c.in_ok-second.ensures) refl c.in_ok-value.ensures (behind refl c.in_ok-end.ensures) (behind refl c.in_ok-next.ensures) (with-two c.args.i _ c.node.ensures)
