-- The measure is what is left. Each return is a law of `PlaceLaws`.
use Rattle.writer.proofs.PlaceLaws.{place-none-left, place-absent, place_here, place-next}
use Rattle.writer.proofs.places.+place.Goals as goal

pub returns-then-left-eq0 : goal.returns-then-left-eq0
returns-then-left-eq0 t c = search place-none-left

pub returns-then-row-ge-ABSENT : goal.returns-then-row-ge-ABSENT
returns-then-row-ge-ABSENT t c = search place-absent

pub returns-then-word-x : goal.returns-then-word-x
returns-then-word-x t c = search place_here

pub returns : goal.returns
returns t c = search place-next
