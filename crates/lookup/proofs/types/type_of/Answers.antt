-- Each return is a law of `TypeLaws`.
use Rattle.lookup.proofs.TypeLaws.{type-array, type-plain}
use Rattle.lookup.proofs.types.type_of.Goals as goal

pub returns-then-kind-eq-OPEN_BRACKET : goal.returns-then-kind-eq-OPEN_BRACKET
returns-then-kind-eq-OPEN_BRACKET c = search type-array

pub returns : goal.returns
returns c = search type-plain
