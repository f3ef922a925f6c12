-- What the functions that read a library ensure: the answer of the definition, and where it accepts, the tokens and the classes in the
-- table.
use Rattle.std.specs.Prelude.{ℕ, ◌≤◌, ◌≡◌, List, length, Result, Ok, Err}
use Rattle.base.specs.Choice.{option}
use Rattle.base.specs.Codes.{source_most, tokens_most}
use Rattle.base.specs.Outcome.{Outcome, accepted, refused}
use Rattle.lexer.specs.Tokens.{Token, tokens}
use Rattle.lexer.specs.promises.Rows.{Rows}
use Rattle.parser.specs.Tree.{Class}
use Rattle.parser.specs.Grammar.{DerivesClasses}
use Rattle.parser.specs.Measure.{classes_deep}
use Rattle.parser.specs.promises.Layout.{row_classes}
use Rattle.parser.specs.promises.Post.{TokensIn}
use Rattle.reader.specs.promises.Holds.{HoldsClasses}
use Rattle.reader.specs.promises.Matches.{ClassesMatch}
use Rattle.reader.specs.promises.WalkPost.{ClassesOrdered}
use Rattle.joining.specs.Library.{LibraryReading, reading_library}

-- the table holds the tokens and the classes of an accepted library
pub record LibraryHeld (tab : List ℕ) (l : LibraryReading) : Type 0 where
  pub rows : Rows tab l.stream
  pub few : length l.stream ≤ tokens_most
  pub holds : HoldsClasses tab l.classes
  pub derived : DerivesClasses l.stream 0 (length l.stream) l.classes

-- the answer and the table are right, where reading answers this: how many tokens there are, and the row of the first class; or the
-- position of the fault
abbrev pub LibraryFills : Outcome LibraryReading → Result (ℕ × ℕ) ℕ → List ℕ → Type 0
LibraryFills (accepted l) a tab = (a ≡ Ok (length l.stream, row_classes l.classes)) × LibraryHeld tab l
LibraryFills (refused n p) a tab = a ≡ Err p

-- of the stages after the lexer, whatever the library is whose tokens the table holds
pub record GrowsClasses (n size : ℕ) (before : List ℕ) (a : Result (ℕ × ℕ) ℕ) (after : List ℕ) : Type 0 where
  pub says : (lib : List ℕ) (ls : List Token) → length lib ≡ size → length lib ≤ source_most → tokens lib ≡ accepted ls → length ls ≡ n
      → Rows before ls → LibraryFills (reading_library lib) a after

-- of the last stage, whatever the classes are that the table holds
pub record MeasuresClasses (tab : List ℕ) (n first : ℕ) (a : Result (ℕ × ℕ) ℕ) : Type 0 where
  pub says : (ls : List Token) → TokensIn tab n ls → (ks : List Class) → row_classes ks ≡ first → HoldsClasses tab ks → ClassesMatch ls ks
      → ClassesOrdered ks → a ≡ option (classes_deep ks) (Ok (n, first)) λ at. Err at
