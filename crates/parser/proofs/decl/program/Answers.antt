-- `program` meets its contract. Each return is a law of `Methods`.
use native.Mathlib.Omega.{arith}
use mathlib.Core.Path.{refl}
use Rattle.parser.specs.Parse.{main_head_lem}
use Rattle.parser.proofs.Matched.{past, head-found}
use Rattle.parser.proofs.Wholes.{passed-on, behind, not-behind, nothing}
use Rattle.parser.proofs.Methods.{program-head, at-start, program-bad, program-classes, program-ok}
use Rattle.parser.proofs.decl.program.Goals as goal

pub single-requires : goal.single-requires
single-requires c =
    omega (arith, c.requires, head-found main_head_lem (omega arith) (omega arith) c.in_ok-start.ensures)

pub classes-requires : goal.classes-requires
classes-requires c =
    omega (arith, c.requires, c.in_ok-statement.ensures.within, past (omega arith) c.in_ok-brace.ensures, past (omega arith) c.in_ok-next.ensures)

pub returns-in_err-start : goal.returns-in_err-start
returns-in_err-start c =
    rw (passed-on c.from_residual.ensures.1)
    (program-head c.in_err-start.ensures)

pub returns-in_err-statement : goal.returns-in_err-statement
returns-in_err-statement c =
    rw (passed-on c.from_residual-in_err-statement.ensures.1)
    (program-bad c.requires.few c.in_ok-start.ensures (at-start c.in_ok-start.ensures c.in_err-statement.ensures) nothing nothing refl)

pub returns-in_err-brace : goal.returns-in_err-brace
returns-in_err-brace c =
    rw (passed-on c.from_residual-in_err-brace.ensures.1)
    (program-bad c.requires.few c.in_ok-start.ensures (at-start c.in_ok-start.ensures c.in_ok-statement.ensures) (not-behind refl c.in_err-brace.ensures) nothing refl)

pub returns-in_err-next : goal.returns-in_err-next
returns-in_err-next c =
    rw (passed-on c.from_residual-in_err-next.ensures.1)
    (program-bad c.requires.few c.in_ok-start.ensures (at-start c.in_ok-start.ensures c.in_ok-statement.ensures) (behind refl c.in_ok-brace.ensures) (not-behind refl c.in_err-next.ensures) refl)

pub returns-in_err-others : goal.returns-in_err-others
returns-in_err-others c =
    rw (passed-on c.from_residual-in_err-others.ensures.1)
    (program-classes c.requires.few c.in_ok-start.ensures (at-start c.in_ok-start.ensures c.in_ok-statement.ensures) (behind refl c.in_ok-brace.ensures) (behind refl c.in_ok-next.ensures) refl c.in_err-others.ensures refl)

pub returns : goal.returns
returns c =
    program-ok c.requires.few c.in_ok-start.ensures (at-start c.in_ok-start.ensures c.in_ok-statement.ensures) (behind refl c.in_ok-brace.ensures) (behind refl c.in_ok-next.ensures) refl c.in_ok-others.ensures refl c.link.ensures
