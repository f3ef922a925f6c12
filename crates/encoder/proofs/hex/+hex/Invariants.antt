-- The measure is how many digits are left. Each return is a law of `HexLaws`.
use Rattle.encoder.proofs.hex.+hex.Given as goal

abbrev pub decreases-hex : goal.decreases-hex
decreases-hex l = l.count
