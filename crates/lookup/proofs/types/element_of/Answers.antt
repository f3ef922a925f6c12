-- Each return is a law of `TypeLaws`.
use Rattle.lookup.proofs.TypeLaws.{element-itself, element-of-array}
use Rattle.lookup.proofs.types.element_of.Goals as goal

pub returns-then-t-lt-ARRAY : goal.returns-then-t-lt-ARRAY
returns-then-t-lt-ARRAY c = search element-itself

pub returns : goal.returns
returns c = search element-of-array
