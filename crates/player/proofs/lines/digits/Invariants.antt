-- `player::lines::digits` meets its contract: the digits before i came to v.
use Prim.Native.Nat.{◌+◌}
use Rattle.player.proofs.Forward.{Reading}
use Rattle.player.proofs.lines.digits.Given as goal

abbrev pub invariant-loop-i : goal.invariant-loop-i
invariant-loop-i l = Reading l.text l.at l.count (l.at + l.count) l.i l.v
