-- `bayrun::input::read_all` is safe. No more bytes are there than there is room for.
use Rattle.std.proofs.Common.{◌≤◌, length}
use Rattle.bayrun.proofs.input.read_all.Given as goal

abbrev pub invariant-loop : goal.invariant-loop
invariant-loop g l = l.n ≤ length l.room
