-- The measure is how many classes may still come. Each return is a law of `TableLaws`.
use Rattle.encoder.proofs.TableLaws.{table_none, table-end, table-next}
use Rattle.encoder.proofs.tables.+of_method.Goals as goal

pub returns-then-left-eq0 : goal.returns-then-left-eq0
returns-then-left-eq0 t c = search table_none

pub returns-then-row-ge-ABSENT : goal.returns-then-row-ge-ABSENT
returns-then-row-ge-ABSENT t c = search table-end

pub returns : goal.returns
returns t c = search table-next
