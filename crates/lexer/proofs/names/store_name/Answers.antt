-- `lexer::names::store_name` meets its contract: the search gives the number, and a new name becomes the head of its chain.
use native.Mathlib.Omega.{arith}
use mathlib.Core.Path.{refl}
use Rattle.base.specs.promises.Table.{col, put}
use Rattle.lexer.proofs.Stores.{chain-sought, extended-again, extended-first}
use Rattle.lexer.proofs.names.store_name.Goals as goal

pub slice_bounds-bucket-count : goal.slice_bounds-bucket-count
slice_bounds-bucket-count c = omega (arith, c.requires.0.ordered)

pub slice_bounds-bucket-start : goal.slice_bounds-bucket-start
slice_bounds-bucket-start c = omega (arith, c.requires.0.ordered)

pub slice_bounds-bucket-end : goal.slice_bounds-bucket-end
slice_bounds-bucket-end c = omega (arith, c.requires.0.inside)

pub lookup-number-requires : goal.lookup-number-requires
unfolding col
lookup-number-requires c =
    chain-sought c.requires.0.chained _ _ c.bucket-b.ensures.0 c.bucket-b.ensures.1

pub returns-then-number-count : goal.returns-then-number-count
unfolding col put
returns-then-number-count c =
    extended-first c.requires.0 c.requires.1 c.requires.2 c.lookup-number.ensures c.bucket-b.ensures.0 c.bucket-b.ensures.1 refl c.store.ensures

pub returns : goal.returns
returns c =
    extended-again c.requires.0 c.requires.1 c.requires.2 c.lookup-number.ensures c.if-number-count.false c.store-2.ensures
