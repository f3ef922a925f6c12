-- `lexer::add` meets its contract: it goes by the verdict.
use Prim.Native.Nat.{◌<◌}
use mathlib.Core.Path.{ap, ◌∙◌}
use native.Mathlib.Omega.{arith}
use Rattle.std.specs.Prelude.{Ok}
use Rattle.base.specs.promises.Table.{rows}
use Rattle.lexer.proofs.Stores.{extended-plain}
use Rattle.lexer.proofs.Verdicts.{judged-as, added-refused, added-name, added-plain}
use Rattle.lexer.proofs.add.Goals as goal

pub slice_bounds-judge-count : goal.slice_bounds-judge-count
slice_bounds-judge-count c = omega (arith, c.requires.0.ordered)

pub slice_bounds-judge-start : goal.slice_bounds-judge-start
slice_bounds-judge-start c = omega (arith, c.requires.0.ordered)

pub slice_bounds-judge-end : goal.slice_bounds-judge-end
slice_bounds-judge-end c = omega (arith, c.requires.0.inside)

pub store_name-requires : goal.store_name-requires
store_name-requires c =
    let j = judged-as c.args.count c.args.token.kind c.args.token.start _ c.judge.ensures (c.in-Ok-Name.is ∙ ap Ok c.in-Ok-Name.field-0-is) in
    (c.requires.0, omega (arith, j.0, c.requires.0.chained.filled.few), j.1)

pub store-requires : goal.store-requires
store-requires c =
    let j = judged-as c.args.count c.args.token.kind c.args.token.start _ c.judge.ensures (c.in-Ok-Plain.is ∙ ap Ok c.in-Ok-Plain.field-0-is) in
    (c.requires.0.chained.filled.big, omega (arith, j.0, c.requires.0.chained.filled.few), c.requires.0.ordered, omega (arith, c.requires.0.inside, c.requires.0.short))

pub returns-in-Err : goal.returns-in-Err
returns-in-Err c = added-refused c.judge.ensures c.in-Err.is

pub returns-in-Ok-Name : goal.returns-in-Ok-Name
returns-in-Ok-Name c =
    added-name c.judge.ensures (c.in-Ok-Name.is ∙ ap Ok c.in-Ok-Name.field-0-is) c.requires.0.ordered c.requires.0.inside c.store_name.ensures

pub returns-in-Ok-Plain : goal.returns-in-Ok-Plain
returns-in-Ok-Plain c =
    let e = c.in-Ok-Plain.is ∙ ap Ok c.in-Ok-Plain.field-0-is in
    let j = judged-as c.args.count c.args.token.kind c.args.token.start _ c.judge.ensures e in
    let n : c.args.count < rows = omega (arith, j.0, c.requires.0.chained.filled.few) in
    added-plain c.judge.ensures e c.requires.0.ordered c.requires.0.inside (extended-plain c.requires.0 n j.1 j.2 c.store.ensures)
