-- Each return is a law of `HeadLaws`.
use Rattle.declarations.proofs.HeadLaws.{redeclares-fits, redeclares-not}
use Rattle.declarations.proofs.heads.redeclares.Goals as goal

pub returns-then-same_types : goal.returns-then-same_types
returns-then-same_types c = search redeclares-fits

pub returns : goal.returns
returns c = search redeclares-not
