-- `lexer::names::has_text` meets its contract: the row has the position and the length of its token.
use Prim.Native.Nat.{ℕ, ◌+◌, ◌-◌}
use native.Mathlib.Omega.{arith}
use mathlib.Core.Path.{◌≡◌, ap, ◌∙◌}
use lib.ListN.{take, drop}
use Rattle.base.specs.Bytes.{same}
use Rattle.base.specs.promises.Table.{col, c_start, c_length, cell}
use Rattle.lexer.specs.promises.Chains.{text_from}
use Rattle.lexer.proofs.names.has_text.Goals as goal

cut : (a b : ℕ) → (a + b) - a ≡ b
cut a b = omega arith

pub overflow_cast-start : goal.overflow_cast-start
overflow_cast-start c = omega (arith, c.shared_slice_known-4-1.given (cell c_start c.args.row))

pub overflow_cast-end : goal.overflow_cast-end
overflow_cast-end c = omega (arith, c.shared_slice_known-5-1.given (cell c_length c.args.row))

pub overflow_add-end-2 : goal.overflow_add-end-2
unfolding col
overflow_add-end-2 c =
    omega (arith, c.shared_slice_known-5-1.given (cell c_length (c.args.row)), c.shared_slice_known-4-1.given (cell c_start (c.args.row)))

pub slice_bounds-eq-end : goal.slice_bounds-eq-end
unfolding col
slice_bounds-eq-end c = omega arith

pub returns : goal.returns
unfolding col text_from
returns c =
    let start = col c.args.table.now c_start c.args.row in
    c.eq.ensures
    ∙ ap (λ (n : ℕ). same (take n (drop start c.args.source.now)) c.args.text.now) (cut start (col c.args.table.now c_length c.args.row))
