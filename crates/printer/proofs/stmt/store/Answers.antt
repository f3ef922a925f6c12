-- `printer::stmt::store` meets its contract: its pieces, one behind another.
use Rattle.printer.specs.laws.StatementLaws.{store-put}
use Rattle.printer.proofs.stmt.store.Goals as goal

pub returns : goal.returns
returns c =
    store-put c.token-a.ensures c.spell-b.ensures c.part.ensures
    c.enclosed-c.ensures
    c.spell-d.ensures c.part-2.ensures c.value.ensures
