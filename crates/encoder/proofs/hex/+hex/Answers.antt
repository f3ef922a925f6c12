-- The measure is how many digits are left. Each return is a law of `HexLaws`.
use Rattle.encoder.proofs.HexLaws.{digits-end, digits-next}
use Rattle.encoder.proofs.hex.+hex.Goals as goal

pub returns-then-count-eq0 : goal.returns-then-count-eq0
returns-then-count-eq0 t c = search digits-end

pub returns : goal.returns
returns t c = search digits-next
