-- The measure is what is left. Each return is a law of `HeightLaws`.
use borrow.Author.Rules.{rules}
use Rattle.declarations.proofs.HeightLaws.{chains-none-left, chains-absent, chains-endless, chains-next}
use Rattle.declarations.proofs.classes.+chains.Goals as goal

pub returns-then-row-ge-ABSENT : goal.returns-then-row-ge-ABSENT
returns-then-row-ge-ABSENT t c = search chains-absent

pub returns-then-left-eq0 : goal.returns-then-left-eq0
returns-then-left-eq0 t c = search chains-none-left

pub returns-then-height-eq0 : goal.returns-then-height-eq0
returns-then-height-eq0 t c = search chains-endless

pub chains-requires : goal.chains-requires
chains-requires t c = (search rules, (search rules, search rules, search rules, search rules))

pub returns : goal.returns
returns t c = search chains-next
