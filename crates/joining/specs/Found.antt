-- Document 02, (x), "library refused by the reading rules, at its position": what is found in a library, by its tokens, the grammar and the depth of
-- its classes.
use Rattle.std.specs.Prelude.{ℕ, ◌+◌, ◌≤◌, ◌<◌, ◌≡◌, List, length}
use Rattle.std.proofs.Math.Option.{none, some}
use Rattle.base.specs.Codes.{source_too_long, source_most, not_in_grammar, too_deep}
use Rattle.base.specs.Outcome.{Outcome, accepted, refused}
use Rattle.lexer.specs.Tokens.{Token, tokens}
use Rattle.parser.specs.Tree.{Class}
use Rattle.parser.specs.Stream.{start_at}
use Rattle.parser.specs.Grammar.{DerivesClasses}
use Rattle.parser.specs.Measure.{classes_deep}
use Rattle.joining.specs.Library.{Library, ViableLibrary, LibraryReading}

-- what the grammar makes of a library with the tokens ls
pub data ByLibraryGrammar (lib : List ℕ) (ls : List Token) : Outcome LibraryReading → Type 0 where
  -- 16 at the first token such that no library begins with the tokens up to and including it: one begins with those before it
  misfit : {k : ℕ} → k < length ls → ViableLibrary ls k → ¬ ViableLibrary ls (k + 1)
      → ByLibraryGrammar lib ls (refused not_in_grammar (start_at ls k))
  -- else 16 at the library's length where it ends too early: a library begins with all the tokens, and they are none
  ends-early : ViableLibrary ls (length ls) → ¬ Library ls → ByLibraryGrammar lib ls (refused not_in_grammar (length lib))
  -- 17: a node deeper than 64, at the smallest position of one
  too-deep : {ks : List Class} {at : ℕ} → DerivesClasses ls 0 (length ls) ks → classes_deep ks ≡ some at
      → ByLibraryGrammar lib ls (refused too_deep at)
  -- else it is accepted, with its tokens and its classes
  library : {ks : List Class} → DerivesClasses ls 0 (length ls) ks → classes_deep ks ≡ none
      → ByLibraryGrammar lib ls (accepted (record { stream = ls; classes = ks }))

pub data FindsLibrary (lib : List ℕ) : Outcome LibraryReading → Type 0 where
  -- 10: over 16,384 bytes, position 0
  library-too-long : source_most < length lib → FindsLibrary lib (refused source_too_long 0)
  -- 11 to 15, 60 and 65: the first fault of its tokens
  tokens-refused : {n q : ℕ} → length lib ≤ source_most → tokens lib ≡ refused n q → FindsLibrary lib (refused n q)
  -- then what the grammar makes of it
  tokens-read : {ls : List Token} {o : Outcome LibraryReading} → length lib ≤ source_most → tokens lib ≡ accepted ls
      → ByLibraryGrammar lib ls o → FindsLibrary lib o
