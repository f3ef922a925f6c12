-- `under` meets its contract: each return is a law of `Joining`.
use Rattle.std.proofs.Common.{arith, sym, length-take-le}
use Rattle.joiner.proofs.Joining.{lesson-short, count-few, tokens-few, under-classes, under-refused}
use Rattle.joiner.proofs.join.under.Goals as goal

pub slice_bounds-names-end : goal.slice_bounds-names-end
slice_bounds-names-end c =
    let a = c.args in
    omega (arith, count-few a.lesson.now a.table.now a.library.now a.strip.now c.requires.1 c.keep-count.ensures)

pub slice_bounds-s-end : goal.slice_bounds-s-end
slice_bounds-s-end c =
    let a = c.args in
    sym (length-take-le _ _ (omega (arith, count-few a.lesson.now a.table.now a.library.now a.strip.now c.requires.1 c.keep-count.ensures)))

pub invariant_of-s : goal.invariant_of-s
invariant_of-s c =
    let a = c.args in
    record {
      big = omega arith;
      few = tokens-few a.lesson.now a.table.now a.library.now a.strip.now c.requires.1 c.fill.new.table c.fill.ensures c.in-Ok.is;
    }

pub text-requires : goal.text-requires
text-requires c =
    let a = c.args in
    lesson-short a.lesson.now a.table.now a.library.now a.strip.now c.requires.1

pub returns-in-Ok : goal.returns-in-Ok
returns-in-Ok c =
    let a = c.args in
    under-classes a.lesson.now a.table.now a.library.now a.strip.now c.requires.1 c.fill.new.table c.keep-count.ensures
    (omega (arith, count-few a.lesson.now a.table.now a.library.now a.strip.now c.requires.1 c.keep-count.ensures)) c.fill.ensures c.in-Ok.is
    c.text.ensures

pub returns-in-Err : goal.returns-in-Err
returns-in-Err c =
    let a = c.args in
    under-refused a.lesson.now a.table.now a.library.now a.strip.now c.requires.1 c.fill.new.table c.fill.ensures c.in-Err.is
