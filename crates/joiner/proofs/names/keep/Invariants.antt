-- `keep` meets its contract: what is listed from here on completes what is listed from the first class on.
use Rattle.std.proofs.Common.{ℕ, ◌-◌, ◌≤◌, List}
use Rattle.joiner.specs.promises.Names.{classes_most, Collects}
use Rattle.joiner.proofs.names.keep.Given as goal

abbrev pub invariant-loop-count : goal.invariant-loop-count
invariant-loop-count l =
    (l.count ≤ classes_most)
    × ((r : ℕ) (c : List ℕ) → Collects l.table l.row l.count (classes_most - l.count) l.names r c
    → Collects l.table l.initial.row 1 (classes_most - 1) l.initial.names r c)

abbrev pub decreases-loop-count : goal.decreases-loop-count
decreases-loop-count l = classes_most - l.count
