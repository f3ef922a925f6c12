-- What clearing leaves and the climb writes are, one after the other, a law of `FieldLaws`.
use borrow.Author.Rules.{rules}
use Rattle.lookup.proofs.FieldLaws.{filled}
use Rattle.lookup.proofs.fields.fill.Goals as goal

pub returns : goal.returns
returns c = filled (search rules) c.climb.ensures
