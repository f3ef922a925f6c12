-- The measure is what is left. Each return is a law of `Writing`.
use Rattle.std.proofs.Common.{length, arith}
use Rattle.joiner.proofs.Writing.{kept-none, kept-past, kept-taken, kept-kept, room-taken, room-kept}
use Rattle.joiner.proofs.text.+write_kept.Goals as goal

pub returns-then-left-eq0 : goal.returns-then-left-eq0
returns-then-left-eq0 t c = search kept-none

pub returns-then-row-ge-ABSENT : goal.returns-then-row-ge-ABSENT
returns-then-row-ge-ABSENT t c = search kept-past

pub write_kept-requires : goal.write_kept-requires
write_kept-requires t c = omega (
  arith,
  room-taken c.args.s.now.lesson.now c.args.s.now.names.now (length c.args.s.now.names.now) c.args.s.now.library.now c.args.s.now.table.now c.args.s.now.n c.args.row c.args.place c.args.strip.now
      c.if-left-eq0.false c.if-row-ge-ABSENT.false
      c.word-next.ensures.0 c.word-name.ensures.0
      c.taken.ensures c.if-taken.true,
)

pub returns-then-taken : goal.returns-then-taken
returns-then-taken t c = search kept-taken

pub write_class-behind-requires : goal.write_class-behind-requires
write_class-behind-requires t c = omega (
  arith,
  room-kept c.args.s.now.lesson.now c.args.s.now.names.now (length c.args.s.now.names.now) c.args.s.now.library.now c.args.s.now.table.now c.args.s.now.n c.args.row c.args.place c.args.strip.now
      c.if-left-eq0.false c.if-row-ge-ABSENT.false
      c.word-next.ensures.0 c.word-name.ensures.0
      c.taken.ensures c.if-taken.false,
)

pub write_kept-requires-2 : goal.write_kept-requires-2
write_kept-requires-2 t c = omega (
  arith,
  room-kept c.args.s.now.lesson.now c.args.s.now.names.now (length c.args.s.now.names.now) c.args.s.now.library.now c.args.s.now.table.now c.args.s.now.n c.args.row c.args.place c.args.strip.now
      c.if-left-eq0.false
      c.if-row-ge-ABSENT.false
      c.word-next.ensures.0
      c.word-name.ensures.0
      c.taken.ensures c.if-taken.false,
  c.write_class-behind.ensures.behind,
)

pub returns : goal.returns
returns t c = search kept-kept
