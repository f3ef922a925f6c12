-- `method` meets its contract. Each return is a law of `Methods`.
use native.Mathlib.Omega.{arith}
use mathlib.Core.Path.{refl}
use Rattle.lexer.specs.Kinds.{k_public}
use Rattle.parser.proofs.Laws.{there}
use Rattle.parser.proofs.Matched.{past}
use Rattle.parser.proofs.Wholes.{passed-on, behind, not-behind, nothing}
use Rattle.parser.proofs.Variables.{opened-not, opened-ok}
use Rattle.parser.proofs.Methods.{method-bad, method-parameters, method-ok, locals-bad, locals-ok, body-bad, body_ok, returned-bad, returned-ok}
use Rattle.parser.proofs.decl.method.Goals as goal

pub variable-requires : goal.variable-requires
variable-requires c =
    omega (arith, c.requires.0, there c.args.table.now c.args.n c.args.i _ k_public refl c.requires.1 (omega arith))

pub parameters-requires : goal.parameters-requires
parameters-requires c =
    omega (arith, c.requires.0, c.in_ok-head.ensures.0.within, past (omega arith) c.in_ok-paren.ensures)

pub variables-requires : goal.variables-requires
variables-requires c =
    omega (arith, c.requires.0, c.in_ok-formals.ensures.within, past (omega arith) c.in_ok-brace.ensures)

pub operation-requires : goal.operation-requires
operation-requires c = omega (arith, c.requires.0, c.in_ok-body.ensures.within, past (omega arith) c.in_ok-start.ensures)

pub method_row-requires : goal.method_row-requires
method_row-requires c =
    omega (arith, c.requires.0, c.in_ok-head.ensures.0.within, c.in_ok-head.ensures.1, past (omega arith) c.in_ok-paren.ensures, c.in_ok-formals.ensures.within, c.in_ok-locals.ensures.within, c.in_ok-body.ensures.within, c.in_ok-value.ensures.within)

pub returns-in_err-head : goal.returns-in_err-head
returns-in_err-head c =
    rw (passed-on c.from_residual.ensures.1)
    (method-bad c.requires.0.few c.requires.1 c.in_err-head.ensures.0 nothing refl)

pub returns-in_err-paren : goal.returns-in_err-paren
returns-in_err-paren c =
    rw (passed-on c.from_residual-in_err-paren.ensures.1)
    (method-bad c.requires.0.few c.requires.1 c.in_ok-head.ensures.0 (not-behind refl c.in_err-paren.ensures) refl)

pub returns-in_err-formals : goal.returns-in_err-formals
returns-in_err-formals c =
    rw (passed-on c.from_residual-in_err-formals.ensures.1)
    (method-parameters c.requires.0.few c.requires.1 c.in_ok-head.ensures.0 (behind refl c.in_ok-paren.ensures) refl c.in_err-formals.ensures refl)

pub returns-in_err-brace : goal.returns-in_err-brace
returns-in_err-brace c =
    rw (passed-on c.from_residual-in_err-brace.ensures.1)
    (method-ok c.requires.0.few c.requires.1 c.in_ok-head.ensures.0 (behind refl c.in_ok-paren.ensures) refl c.in_ok-formals.ensures refl (locals-bad c.requires.0.few (opened-not c.in_err-brace.ensures) refl))

pub returns-in_err-locals : goal.returns-in_err-locals
returns-in_err-locals c =
    rw (passed-on c.from_residual-in_err-locals.ensures.1)
    (method-ok c.requires.0.few c.requires.1 c.in_ok-head.ensures.0 (behind refl c.in_ok-paren.ensures) refl c.in_ok-formals.ensures refl (locals-bad c.requires.0.few (opened-ok c.in_ok-brace.ensures c.in_err-locals.ensures) refl))

pub returns-in_err-body : goal.returns-in_err-body
returns-in_err-body c =
    rw (passed-on c.from_residual-in_err-body.ensures.1)
    (method-ok c.requires.0.few c.requires.1 c.in_ok-head.ensures.0 (behind refl c.in_ok-paren.ensures) refl c.in_ok-formals.ensures refl
    (locals-ok c.requires.0.few (opened-ok c.in_ok-brace.ensures c.in_ok-locals.ensures) refl
    (body-bad c.requires.0.few c.in_err-body.ensures nothing refl)))

pub returns-in_err-start : goal.returns-in_err-start
returns-in_err-start c =
    rw (passed-on c.from_residual-in_err-start.ensures.1)
    (method-ok c.requires.0.few c.requires.1 c.in_ok-head.ensures.0 (behind refl c.in_ok-paren.ensures) refl c.in_ok-formals.ensures refl
    (locals-ok c.requires.0.few (opened-ok c.in_ok-brace.ensures c.in_ok-locals.ensures) refl
    (body-bad c.requires.0.few c.in_ok-body.ensures (not-behind refl c.in_err-start.ensures) refl)))

pub returns-in_err-value : goal.returns-in_err-value
returns-in_err-value c =
    rw (passed-on c.from_residual-in_err-value.ensures.1)
    (method-ok c.requires.0.few c.requires.1 c.in_ok-head.ensures.0 (behind refl c.in_ok-paren.ensures) refl c.in_ok-formals.ensures refl
    (locals-ok c.requires.0.few (opened-ok c.in_ok-brace.ensures c.in_ok-locals.ensures) refl
    (body_ok c.requires.0.few c.in_ok-body.ensures (behind refl c.in_ok-start.ensures) refl
    (returned-bad c.requires.0.few c.in_err-value.ensures nothing nothing refl))))

pub returns-in_err-end : goal.returns-in_err-end
returns-in_err-end c =
    rw (passed-on c.from_residual-in_err-end.ensures.1)
    (method-ok c.requires.0.few c.requires.1 c.in_ok-head.ensures.0 (behind refl c.in_ok-paren.ensures) refl c.in_ok-formals.ensures refl
    (locals-ok c.requires.0.few (opened-ok c.in_ok-brace.ensures c.in_ok-locals.ensures) refl
    (body_ok c.requires.0.few c.in_ok-body.ensures (behind refl c.in_ok-start.ensures) refl
    (returned-bad c.requires.0.few c.in_ok-value.ensures (not-behind refl c.in_err-end.ensures) nothing refl))))

pub returns-in_err-next : goal.returns-in_err-next
returns-in_err-next c =
    rw (passed-on c.from_residual-in_err-next.ensures.1)
    (method-ok c.requires.0.few c.requires.1 c.in_ok-head.ensures.0 (behind refl c.in_ok-paren.ensures) refl c.in_ok-formals.ensures refl
    (locals-ok c.requires.0.few (opened-ok c.in_ok-brace.ensures c.in_ok-locals.ensures) refl
    (body_ok c.requires.0.few c.in_ok-body.ensures (behind refl c.in_ok-start.ensures) refl
    (returned-bad c.requires.0.few c.in_ok-value.ensures (behind refl c.in_ok-end.ensures) (not-behind refl c.in_err-next.ensures) refl))))

pub returns : goal.returns
returns c =
    method-ok c.requires.0.few c.requires.1 c.in_ok-head.ensures.0 (behind refl c.in_ok-paren.ensures) refl c.in_ok-formals.ensures refl
    (locals-ok c.requires.0.few (opened-ok c.in_ok-brace.ensures c.in_ok-locals.ensures) refl
    (body_ok c.requires.0.few c.in_ok-body.ensures (behind refl c.in_ok-start.ensures) refl
    (returned-ok c.requires.0.few c.in_ok-value.ensures (behind refl c.in_ok-end.ensures) (behind refl c.in_ok-next.ensures) (omega (arith, c.in_ok-head.ensures.0.within)) refl
    c.method_row.ensures)))
