-- `lexer::names::lookup` meets its contract: each turn passes one row of the chain, and the links fall.
use Prim.Native.Nat.{◌-◌, ◌≤◌, ◌<◌}
use native.Mathlib.Omega.{arith}
use lib.ListN.{length}
use mathlib.Core.Path.{sym, ◌∙◌}
use Rattle.base.specs.promises.Table.{col, c_link, cell}
use Rattle.base.specs.Codes.{tokens_most, table_least}
use Rattle.lexer.proofs.Chains.{row_inside, sought-row, sought-hit, sought-next, sought-none}
use Rattle.lexer.proofs.names.lookup.Goals as goal

pub loop-link-init : goal.loop-link-init
loop-link-init c = c.requires

pub has_text-requires : goal.has_text-requires
has_text-requires c =
    (c.loop-link.invariant.filled.big, omega (arith, row_inside c.loop-link-test.true c.loop-link.invariant, c.loop-link.invariant.filled.few), (sought-row c.loop-link-test.true c.loop-link.invariant).inside)

pub overflow_add-result : goal.overflow_add-result
overflow_add-result c = omega (arith, (let it : (c.loop-link.link - 1 < c.args.count) × (c.args.count ≤ tokens_most) × (table_least ≤ length c.args.table.now) = (row_inside c.loop-link-test.true c.loop-link.invariant, c.loop-link.invariant.filled.few, c.loop-link.invariant.filled.big) in it))

pub offset_bounds-table-row : goal.offset_bounds-table-row
offset_bounds-table-row c = omega (arith, (let it : (c.loop-link.link - 1 < c.args.count) × (c.args.count ≤ tokens_most) × (table_least ≤ length c.args.table.now) = (row_inside c.loop-link-test.true c.loop-link.invariant, c.loop-link.invariant.filled.few, c.loop-link.invariant.filled.big) in it))

pub bounds-table-row : goal.bounds-table-row
bounds-table-row c = omega (arith, (let it : (c.loop-link.link - 1 < c.args.count) × (c.args.count ≤ tokens_most) × (table_least ≤ length c.args.table.now) = (row_inside c.loop-link-test.true c.loop-link.invariant, c.loop-link.invariant.filled.few, c.loop-link.invariant.filled.big) in it))

pub returns-then-has_text : goal.returns-then-has_text
unfolding col
returns-then-has_text c =
    sought-hit c.loop-link-test.true c.loop-link.invariant (sym c.has_text.ensures ∙ c.if-has_text.true)

pub overflow_add-link : goal.overflow_add-link
overflow_add-link c = omega (arith, (let it : (c.loop-link.link - 1 < c.args.count) × (c.args.count ≤ tokens_most) × (table_least ≤ length c.args.table.now) = (row_inside c.loop-link-test.true c.loop-link.invariant, c.loop-link.invariant.filled.few, c.loop-link.invariant.filled.big) in it))

pub offset_bounds-table-row-in-loop-link : goal.offset_bounds-table-row-in-loop-link
offset_bounds-table-row-in-loop-link c = omega (arith, (let it : (c.loop-link.link - 1 < c.args.count) × (c.args.count ≤ tokens_most) × (table_least ≤ length c.args.table.now) = (row_inside c.loop-link-test.true c.loop-link.invariant, c.loop-link.invariant.filled.few, c.loop-link.invariant.filled.big) in it))

pub bounds-table-row-in-loop-link : goal.bounds-table-row-in-loop-link
bounds-table-row-in-loop-link c = omega (arith, (let it : (c.loop-link.link - 1 < c.args.count) × (c.args.count ≤ tokens_most) × (table_least ≤ length c.args.table.now) = (row_inside c.loop-link-test.true c.loop-link.invariant, c.loop-link.invariant.filled.few, c.loop-link.invariant.filled.big) in it))

pub overflow_cast-link-in-loop-link : goal.overflow_cast-link-in-loop-link
overflow_cast-link-in-loop-link c = omega (arith, c.shared_slice_known-in-loop-link-1.given (cell c_link (c.loop-link.link - 1)))

pub loop-link-smaller : goal.loop-link-smaller
unfolding col
loop-link-smaller c =
    omega (arith, (sought-row c.loop-link-test.true c.loop-link.invariant).link.below)

pub loop-link-preserved : goal.loop-link-preserved
unfolding col
loop-link-preserved c =
    sought-next c.loop-link-test.true c.loop-link.invariant (sym c.has_text.ensures ∙ c.if-has_text.false)

pub overflow_cast-result : goal.overflow_cast-result
overflow_cast-result c = omega (arith, c.loop-link.invariant.filled.few)

pub returns : goal.returns
returns c = sought-none c.loop-link-test.false c.loop-link.invariant
