-- `class` meets its contract: each return is a law of `Methods`.
use native.Mathlib.Omega.{arith}
use mathlib.Core.Path.{refl}
use Rattle.parser.proofs.Matched.{past}
use Rattle.parser.proofs.Wholes.{passed-on, behind, not-behind, nothing}
use Rattle.parser.proofs.Variables.{opened-not, opened-ok}
use Rattle.parser.proofs.Methods.{class-missing, class-name, class-parent, class-ok, members-bad, members-ok, class-methods-bad, class-methods-ok}
use Rattle.parser.proofs.decl.class.Goals as goal

pub parent-requires : goal.parent-requires
parent-requires c =
    omega (arith, c.requires, past (omega arith) c.in_ok-name.ensures, past (omega arith) c.in_ok-behind.ensures)

pub variables-requires : goal.variables-requires
variables-requires c = omega (arith, c.requires, c.in_ok-above.ensures.within, past (omega arith) c.in_ok-brace.ensures)

pub class_row-requires : goal.class_row-requires
class_row-requires c =
    omega (arith, c.requires, past (omega arith) c.in_ok-behind.ensures, c.in_ok-above.ensures.within, c.in_ok-first.ensures.within, c.in_ok-second.ensures.within)

pub returns-in_err-name : goal.returns-in_err-name
returns-in_err-name c =
    rw (passed-on c.from_residual.ensures.1)
    (class-missing c.in_err-name.ensures)

pub returns-in_err-behind : goal.returns-in_err-behind
returns-in_err-behind c =
    rw (passed-on c.from_residual-in_err-behind.ensures.1)
    (class-name c.in_ok-name.ensures c.in_err-behind.ensures)

pub returns-in_err-above : goal.returns-in_err-above
returns-in_err-above c =
    rw (passed-on c.from_residual-in_err-above.ensures.1)
    (class-parent c.in_ok-name.ensures c.in_ok-behind.ensures c.in_err-above.ensures refl)

pub returns-in_err-brace : goal.returns-in_err-brace
returns-in_err-brace c =
    rw (passed-on c.from_residual-in_err-brace.ensures.1)
    (class-ok c.in_ok-name.ensures c.in_ok-behind.ensures c.in_ok-above.ensures refl (members-bad c.requires.few (opened-not c.in_err-brace.ensures) refl))

pub returns-in_err-first : goal.returns-in_err-first
returns-in_err-first c =
    rw (passed-on c.from_residual-in_err-first.ensures.1)
    (class-ok c.in_ok-name.ensures c.in_ok-behind.ensures c.in_ok-above.ensures refl (members-bad c.requires.few (opened-ok c.in_ok-brace.ensures c.in_err-first.ensures) refl))

pub returns-in_err-second : goal.returns-in_err-second
returns-in_err-second c =
    rw (passed-on c.from_residual-in_err-second.ensures.1)
    (class-ok c.in_ok-name.ensures c.in_ok-behind.ensures c.in_ok-above.ensures refl (members-ok c.requires.few (opened-ok c.in_ok-brace.ensures c.in_ok-first.ensures) refl (class-methods-bad c.requires.few c.in_err-second.ensures nothing refl)))

pub returns-in_err-next : goal.returns-in_err-next
returns-in_err-next c =
    rw (passed-on c.from_residual-in_err-next.ensures.1)
    (class-ok c.in_ok-name.ensures c.in_ok-behind.ensures c.in_ok-above.ensures refl (members-ok c.requires.few (opened-ok c.in_ok-brace.ensures c.in_ok-first.ensures) refl (class-methods-bad c.requires.few c.in_ok-second.ensures (not-behind refl c.in_err-next.ensures) refl)))

pub returns : goal.returns
returns c =
    class-ok c.in_ok-name.ensures c.in_ok-behind.ensures c.in_ok-above.ensures refl (members-ok c.requires.few (opened-ok c.in_ok-brace.ensures c.in_ok-first.ensures) refl
    (class-methods-ok c.requires.few c.in_ok-second.ensures (behind refl c.in_ok-next.ensures) (omega (arith, past (omega arith) c.in_ok-behind.ensures)) refl c.class_row.ensures))
