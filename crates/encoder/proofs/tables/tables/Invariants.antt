-- `tables` meets its contract: the tables from here on complete those from place j on.
use Rattle.std.proofs.Common.{ℕ, ◌+◌, ◌-◌, ◌*◌, ◌≤◌, List}
use Rattle.encoder.specs.promises.Tables.{TablesPost}
use Rattle.encoder.proofs.tables.tables.Given as goal

abbrev pub invariant-loop-k : goal.invariant-loop-k
invariant-loop-k l =
    (l.next ≤ l.at + 22528 * (l.k - l.j))
    × ((after : List ℕ) (r : ℕ)
    → TablesPost l.l.table.now l.l.entries.now l.l.names.now l.l.plan l.k (l.j + l.left - l.k) l.next l.strip after r
    → TablesPost l.l.table.now l.l.entries.now l.l.names.now l.l.plan l.j l.left l.at l.initial.strip after r)
