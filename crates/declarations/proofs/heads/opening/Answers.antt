-- Each return is a law of `HeadLaws`.
use Rattle.declarations.proofs.HeadLaws.{opening-repeated, opening-fine, opening-unknown}
use Rattle.declarations.proofs.heads.opening.Goals as goal

pub returns-then-mark : goal.returns-then-mark
returns-then-mark c = search opening-repeated

pub returns-then-is_known : goal.returns-then-is_known
returns-then-is_known c = search opening-fine

pub returns : goal.returns
returns c = search opening-unknown
