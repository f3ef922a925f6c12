-- `printer::stmt::port_put` meets its contract: its pieces, one behind another.
use Rattle.printer.specs.laws.StatementLaws.{port-put}
use Rattle.printer.proofs.stmt.port_put.Goals as goal

pub returns : goal.returns
returns c =
    port-put c.spell-a.ensures c.part.ensures c.expression-b.ensures
    c.spell-c.ensures c.part-2.ensures c.finished.ensures
