-- A write past the array changes nothing, as `set` does.
use mathlib.Core.Path.{refl, sym}
use lib.Seq.{set_out}
use Rattle.writer.proofs.code.put_word.Goals as goal

pub returns-then-at-code : goal.returns-then-at-code
returns-then-at-code c = refl

pub returns-else-at-code : goal.returns-else-at-code
returns-else-at-code c = sym (set_out _ _ _ c.if-at-code.false)
