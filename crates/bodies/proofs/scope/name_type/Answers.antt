-- Each return is a law of `ScopeLaws`.
use native.Mathlib.Omega.{arith}
use Rattle.bodies.proofs.ScopeLaws.{name-parameter, name-local, name-past, name-field}
use Rattle.bodies.proofs.scope.name_type.Goals as goal

pub returns-then-t-lt-NOTHING : goal.returns-then-t-lt-NOTHING
returns-then-t-lt-NOTHING c = search name-parameter

pub returns-then-u-lt-NOTHING : goal.returns-then-u-lt-NOTHING
returns-then-u-lt-NOTHING c = search name-local

pub returns-then-x-ge-ABSENT : goal.returns-then-x-ge-ABSENT
returns-then-x-ge-ABSENT c = search name-past

pub overflow_cast-result : goal.overflow_cast-result
overflow_cast-result c = omega arith

pub returns : goal.returns
returns c = search name-field
