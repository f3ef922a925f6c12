-- `same` meets its contract: so far as the loop has come, the names are the same.
use Rattle.std.proofs.Common.{◌≡◌, ◌+◌, ◌-◌}
use Rattle.joiner.specs.promises.Names.{same_within_lem, name_room}
use Rattle.joiner.proofs.names.same.Given as goal

abbrev pub invariant-loop-k : goal.invariant-loop-k
invariant-loop-k l =
    same_within_lem l.a (l.i + l.k) l.b (l.j + l.k) (name_room - l.k) ≡ same_within_lem l.a l.i l.b l.j name_room
