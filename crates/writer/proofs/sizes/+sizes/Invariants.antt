-- The measure is how many classes may still come. Each return is a law of `SizeLaws`.
use Rattle.writer.proofs.sizes.+sizes.Given as goal

abbrev pub decreases-sizes : goal.decreases-sizes
decreases-sizes l = l.left
