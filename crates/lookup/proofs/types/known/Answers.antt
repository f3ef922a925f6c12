-- Each return is a law of `TypeLaws`.
use Rattle.lookup.proofs.TypeLaws.{known-plain, known-class}
use Rattle.lookup.proofs.types.known.Goals as goal

pub returns-then-e-ge-INT : goal.returns-then-e-ge-INT
returns-then-e-ge-INT c = search known-plain

pub returns : goal.returns
returns c = search known-class
