-- `player::lines::form` meets its contract: the lines before line i are of the form.
use native.Mathlib.Omega.{arith}
use Rattle.player.proofs.Lining.{decoding-more, decoding-other, decoding-all}
use Rattle.player.proofs.lines.form.Goals as goal

pub returns-in_default : goal.returns-in_default
returns-in_default c =
    decoding-other c.loop-i.invariant (omega (arith, c.div_ceil-i-end.ensures, c.loop-i-test.true)) c.in_default.ensures

pub loop-i-preserved : goal.loop-i-preserved
loop-i-preserved c = decoding-more c.loop-i.invariant c.in-Some.ensures c.decode.ensures

pub returns : goal.returns
returns c = decoding-all c.loop-i.invariant (omega (arith, c.div_ceil-i-end.ensures, c.loop-i-test.false))
