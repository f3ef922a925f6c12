-- Each return is a law of `HeadLaws`.
use Rattle.declarations.proofs.HeadLaws.{compatible-empty, compatible-new, compatible-is}
use Rattle.declarations.proofs.heads.is_compatible.Goals as goal

pub returns-then-classes-eq0 : goal.returns-then-classes-eq0
returns-then-classes-eq0 c = search compatible-empty

pub returns-then-upper-ge-ABSENT : goal.returns-then-upper-ge-ABSENT
returns-then-upper-ge-ABSENT c = search compatible-new

pub returns : goal.returns
returns c = search compatible-is
