-- What the functions of the operation Print ensure.
use Rattle.std.specs.Prelude.{ℕ, ◌≤◌, ◌≡◌, List, length}
use Rattle.base.specs.Outcome.{accepted}
use Rattle.base.specs.Write.{WriteResult}
use Rattle.lexer.specs.Tokens.{Token, tokens}
use Rattle.parser.specs.Tree.{Program}
use Rattle.parser.specs.Grammar.{DerivesProgram}
use Rattle.declarations.specs.promises.Indexing.{Ready}
use Rattle.printing.specs.Printed.{text}
use Rattle.printing.specs.Print.{print_result}
use Rattle.printer.specs.promises.Puts.{text_room}

-- the answer and the strip for an accepted program, whose text there is room for
pub record WritesText (s tab : List ℕ) (n : ℕ) (before : List ℕ) (w : WriteResult) : Type 0 where
  pub says : (ts : List Token) (p : Program) → tokens s ≡ accepted ts → Ready tab n ts p → DerivesProgram ts p → length (text p) ≤ text_room
      → w ≡ print_result (accepted p) before
