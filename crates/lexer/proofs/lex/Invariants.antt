-- `lexer::lex` meets its contract: each turn is a turn of the definition, and the table holds the tokens read so far.
use Prim.Native.Nat.{◌-◌}
use mathlib.Core.Path.{◌≡◌}
use lib.ListN.{length}
use Rattle.lexer.proofs.Lexing.{Lexing}
use Rattle.lexer.proofs.lex.Given as goal

abbrev pub invariant-loop-at : goal.invariant-loop-at
invariant-loop-at l = Lexing l.source l.table l.count l.at × (length l.table ≡ length l.initial.table)

abbrev pub decreases-loop-at : goal.decreases-loop-at
decreases-loop-at l = length l.source - l.at
