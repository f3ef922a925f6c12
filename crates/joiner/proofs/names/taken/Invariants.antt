-- `taken` meets its contract: none of the names before was the same.
use Rattle.std.proofs.Common.{◌≡◌, ◌-◌, length}
use Rattle.joiner.specs.promises.Names.{taken_within_lem}
use Rattle.joiner.proofs.names.taken.Given as goal

abbrev pub invariant-loop-own : goal.invariant-loop-own
invariant-loop-own l =
    taken_within_lem l.lesson l.names l.own-index (length l.names - l.own-index) l.library l.at
    ≡ taken_within_lem l.lesson l.names 0 (length l.names) l.library l.at
