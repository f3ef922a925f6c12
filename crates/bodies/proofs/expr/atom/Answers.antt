-- Each return is a law of `ExpressionLaws`.
use native.Mathlib.Omega.{arith}
use Rattle.bodies.proofs.ExpressionLaws.{atom-literal, atom-fixed-literal, atom-true, atom-false, atom-this, atom-is-name}
use Rattle.bodies.proofs.expr.atom.Goals as goal

pub returns-in-4 : goal.returns-in-4
returns-in-4 c = search atom-literal

pub returns-in-44 : goal.returns-in-44
returns-in-44 c = search atom-fixed-literal

pub returns-in-21 : goal.returns-in-21
returns-in-21 c = search atom-true

pub returns-in-9 : goal.returns-in-9
returns-in-9 c = search atom-false

pub returns-in-20 : goal.returns-in-20
returns-in-20 c = search atom-this

pub returns-in_default : goal.returns-in_default
returns-in_default c =
    atom-is-name (λ e. omega arith) (λ e. omega arith) (λ e. omega arith) (λ e. omega arith) (λ e. omega arith) c.name.ensures
