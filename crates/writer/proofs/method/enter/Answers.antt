-- The array with one word written.
use mathlib.Core.Path.{refl}
use Rattle.writer.proofs.method.enter.Goals as goal

pub returns : goal.returns
returns c = refl
