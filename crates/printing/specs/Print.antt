-- Document 02, (v), "Tidy printing of a lesson": the whole operation as a definition.
use Rattle.std.specs.Prelude.{ℕ, ◌≡◌, List, length, ltb}
use Rattle.base.specs.Choice.{if◌then◌otherwise◌}
use Rattle.base.specs.Codes.{table_too_short, table_least, text_too_long}
use Rattle.base.specs.Outcome.{Outcome, accepted, ◌>>=◌}
use Rattle.base.specs.Write.{WriteAnswer, WriteResult, write_refusal, write_result}
use Rattle.parser.specs.Tree.{Program}
use Rattle.parser.specs.Read.{table_after}
use Rattle.typesystem.specs.Check.{checking}
use Rattle.printing.specs.Printed.{text}

-- the text of an accepted lesson; "61: strip too short, after all of Check's refusals"
abbrev pub print_result : Outcome Program → (before : List ℕ) → WriteResult
print_result o before = write_result text_too_long (o >>= λ p. accepted (text p)) before

-- "A new operation writes an accepted lesson into a lent byte strip": what it answers for a source, a work table of so many words and what
-- the strip held before
unfoldable pub print : List ℕ → (table : ℕ) → (before : List ℕ) → WriteResult
print s table before =
    if ltb table table_least then (λ _. record { answer = write_refusal table_too_short 0; strip = before }) otherwise λ _.
    print_result (checking s) before

-- the answer, the work table and the strip that are right for a source and what the work table and the strip held before
pub record Prints (s table before : List ℕ) (a : WriteAnswer) (tableExit after : List ℕ) : Type 0 where
  pub answer : record { answer = a; strip = after } ≡ print s (length table) before
  pub cleared : tableExit ≡ table_after table
