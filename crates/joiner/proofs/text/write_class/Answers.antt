-- `write_class` meets its contract: what is written is a law of `Writing`.
use Rattle.std.proofs.Common.{refl}
use Rattle.joiner.proofs.Writing.{class-written}
use Rattle.joiner.proofs.text.write_class.Goals as goal

pub returns : goal.returns
returns c =
    class-written _ _ _ _ _ _ _ c.start_before-from.ensures.0 c.end_before-end.ensures.0 c.copy.ensures refl c.part_size.ensures.0 refl
