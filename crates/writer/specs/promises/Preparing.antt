-- What a run begins with: of an accepted source the tokens and the class table in the table, and its code. Running rests on this and on
-- nothing else of checking.
use Rattle.std.specs.Prelude.{ℕ, suc, ◌≤◌, ◌≡◌, List, length}
use Rattle.lexer.specs.Tokens.{Token}
use Rattle.lexer.specs.promises.Rows.{first_named}
use Rattle.parser.specs.Tree.{Program}
use Rattle.parser.specs.Grammar.{DerivesProgram}
use Rattle.lookup.specs.promises.HeldClasses.{ClassTableHeld}
use Rattle.typecheck.specs.promises.CheckPost.{Finding}
use Rattle.typecheck.specs.promises.CheckPost.{found}
use Rattle.typecheck.specs.promises.CheckPost.{Holding}
use Rattle.codegen.specs.promises.Compile.{end, compile}
use Rattle.writer.specs.promises.Words.{store}
use Rattle.writer.specs.promises.Classes.{entered_classes}
use Rattle.writer.specs.promises.Posts as Posts

pub record CodeWritten (p : Program) (r : Finding) (tab code code' entries entries' : List ℕ) : Type 0 where
  pub stream : List Token
  pub answer : r ≡ found (length stream) (length p.classes)
  pub world : ClassTableHeld tab (length stream) stream p.classes
  pub derived : DerivesProgram stream p
  pub code_is : code' ≡ store (first_named stream) (compile p).instructions 0 code
  pub room : length (compile p).instructions ≤ Posts.room
  pub entries-are : entries' ≡ entered_classes p.classes (suc (end p.statement 0)) entries

-- what is written of the program that Check left in the table
pub record Prepares (n k : ℕ) (tab code code' entries entries' : List ℕ) : Type 0 where
  pub says : (ts : List Token) (p : Program) → Holding ts p (found n k) tab → CodeWritten p (found n k) tab code code' entries entries'
