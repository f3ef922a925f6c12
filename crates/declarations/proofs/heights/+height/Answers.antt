-- The measure is what is left. Each return is a law of `HeightLaws`.
use native.Mathlib.Omega.{arith}
use borrow.Author.Rules.{rules}
use Rattle.declarations.proofs.HeightLaws.{height-none-left, height-past, height-higher, height-known, height-unknown, height-top, height-endless, height-next}
use Rattle.declarations.proofs.heights.+height.Goals as goal

pub returns-then-left-eq0 : goal.returns-then-left-eq0
returns-then-left-eq0 t c = search height-none-left

pub returns-then-c-ge-ABSENT : goal.returns-then-c-ge-ABSENT
returns-then-c-ge-ABSENT t c = search height-past

pub overflow_cast-h : goal.overflow_cast-h
overflow_cast-h t c = omega arith

pub returns-then-left-h : goal.returns-then-left-h
returns-then-left-h t c = search height-higher

pub returns-then-h-ne0 : goal.returns-then-h-ne0
returns-then-h-ne0 t c = search height-known

pub returns-then-class-ge-ABSENT : goal.returns-then-class-ge-ABSENT
returns-then-class-ge-ABSENT t c = search height-unknown

pub returns-then-p-ge-ABSENT : goal.returns-then-p-ge-ABSENT
returns-then-p-ge-ABSENT t c = search height-top

pub height-q-requires : goal.height-q-requires
height-q-requires t c = (search rules, (search rules, search rules, search rules, c.requires.3))

pub returns-then-q-eq0 : goal.returns-then-q-eq0
returns-then-q-eq0 t c = search height-endless

pub returns : goal.returns
returns t c = search height-next
