-- `player::lines::form` meets its contract: the lines before line i are of the form.
use Rattle.player.proofs.Lining.{Decoding}
use Rattle.player.proofs.lines.form.Given as goal

abbrev pub invariant-loop-i : goal.invariant-loop-i
invariant-loop-i l = Decoding l.text l.decoded l.i
