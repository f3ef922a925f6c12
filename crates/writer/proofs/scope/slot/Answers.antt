-- Each return is a law of `ScopeLaws`; but a number of no name has no meaning, and a word of the array fits.
use Rattle.writer.proofs.ScopeLaws.{slot-parameter, slot-local, slot-none, slot_held}
use Rattle.writer.proofs.scope.slot.Goals as goal

pub returns-then-i-lt-ABSENT : goal.returns-then-i-lt-ABSENT
returns-then-i-lt-ABSENT c = search slot-parameter

pub returns-then-j-lt-ABSENT : goal.returns-then-j-lt-ABSENT
returns-then-j-lt-ABSENT c = search slot-local

pub returns-then-v-x-ge-NOTHING : goal.returns-then-v-x-ge-NOTHING
returns-then-v-x-ge-NOTHING c = search slot-none

pub returns : goal.returns
returns c = search slot_held
