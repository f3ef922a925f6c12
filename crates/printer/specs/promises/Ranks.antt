-- The class of the grammar that the expression in a row is of, by the kinds of its own token and of the one two behind it.
use Rattle.std.specs.Prelude.{ℕ, eqb}
use Rattle.base.specs.Choice.{if◌then◌otherwise◌}
use Rattle.lexer.specs.Kinds.{k_and, k_less, k_plus, k_minus, k_times, k_not, k_new, k_dot, k_open_bracket}

-- the number that `rank` gives it
unfoldable pub tightness_of : (k third : ℕ) → ℕ
tightness_of k third =
    if eqb k k_and then (λ _. 0) otherwise λ _.
    if eqb k k_less then (λ _. 1) otherwise λ _.
    if eqb k k_plus then (λ _. 2) otherwise λ _.
    if eqb k k_minus then (λ _. 2) otherwise λ _.
    if eqb k k_times then (λ _. 3) otherwise λ _.
    if eqb k k_not then (λ _. 4) otherwise λ _.
    if eqb k k_new then (λ _. if eqb third k_open_bracket then (λ _. 5) otherwise λ _. 7) otherwise λ _.
    if eqb k k_dot then (λ _. 6) otherwise λ _.
    if eqb k k_open_bracket then (λ _. 6) otherwise λ _.
    7
