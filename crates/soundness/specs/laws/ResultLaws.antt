-- No number stands both for an end by itself and for a limit: those of limits are 50 to 53, and of the others none lies there.
use Rattle.std.specs.Prelude.{ℕ, ◌≤◌, ◌<◌}
use Rattle.std.proofs.Common.{arith}
use Rattle.base.specs.Codes.{budget_spent, output_full}
use Rattle.semantics.specs.Limits.{Ending, ended, went_wrong, unfinished}
use Rattle.soundness.specs.Results.{by-null, by_index, by_size, by_register, by_byte, Finish, by-success, by-fault, ByLimit, by-budget, by-heap, by-calls, by-output}

finish-apart : {k : ℕ} → Finish k → budget_spent ≤ k → output_full < k
finish-apart by-success l = omega (arith, l)
finish-apart (by-fault by-null) l = omega (arith, l)
finish-apart (by-fault by_index) l = omega (arith, l)
finish-apart (by-fault by_size) l = omega (arith, l)
finish-apart (by-fault by_register) l = omega arith
finish-apart (by-fault by_byte) l = omega arith

limit-within : {k : ℕ} → ByLimit k → (budget_spent ≤ k) × (k ≤ output_full)
limit-within by-budget = (omega arith, omega arith)
limit-within by-heap = (omega arith, omega arith)
limit-within by-calls = (omega arith, omega arith)
limit-within by-output = (omega arith, omega arith)

pub finish-or-limit : {k : ℕ} → Finish k → ByLimit k → ⊥
finish-or-limit f l = let w = limit-within l in omega (arith, finish-apart f w.0, w.1)

-- the fuel was not used up
abbrev pub Over : Ending → Type 0
Over (ended k p) = Unit {0}
Over went_wrong = Unit {0}
Over unfinished = ⊥
