-- `printer::strip::spell` meets its contract: so far as the loop has come, the text is written.
use Rattle.std.proofs.Common.{take}
use Rattle.printer.specs.promises.Puts.{Puts}
use Rattle.printer.proofs.strip.spell.Given as goal

abbrev pub invariant-loop-b : goal.invariant-loop-b
invariant-loop-b l = Puts l.at (take l.b-index l.text) l.initial.strip l.strip l.place
