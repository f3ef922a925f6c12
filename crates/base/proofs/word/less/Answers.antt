-- `base::word::less` meets its contract: it compares the two signed readings.
use Rattle.std.proofs.Common.{◌∙◌, ap₂, w32}
use lib.Signed.{lt_z}
use mir.ValLaws.{to_z-of_z}
use Rattle.base.proofs.word.less.Goals as goal

pub returns : goal.returns
returns c =
    ap₂ lt_z
    (to_z-of_z w32 _ (record { sfits = c.signed.type_inv }) ∙ c.signed.ensures)
    (to_z-of_z w32 _ (record { sfits = c.signed-2.type_inv }) ∙ c.signed-2.ensures)
