-- What writing a program ensures: the code is that of the compiler, and each method's entry stands at the row of its name.
use Rattle.std.specs.Prelude.{ℕ, suc, ◌≤◌, ◌≡◌, List, ◌∷◌, length}
use Rattle.lexer.specs.Tokens.{Token}
use Rattle.lexer.specs.promises.Rows.{first_named}
use Rattle.parser.specs.Tree.{Class, Program}
use Rattle.parser.specs.promises.Layout.{absent, row_classes}
use Rattle.parser.specs.Grammar.{DerivesProgram}
use Rattle.typesystem.specs.ClassTable.{main_context}
use Rattle.lookup.specs.promises.HeldClasses.{ClassTableHeld}
use Rattle.lookup.specs.promises.Fields.{FieldsHeld}
use Rattle.bodies.specs.declared.scope.Scope.{Scope}
use Rattle.declarations.specs.promises.Indexing.{Ready}
use Rattle.codegen.specs.promises.Code.{halt}
use Rattle.codegen.specs.promises.Compile.{end, emit, compile}
use Rattle.writer.specs.promises.Words.{store}
use Rattle.writer.specs.promises.Sizing.{SizesHeld}
use Rattle.writer.specs.promises.Posts.{room, Wrote}
use Rattle.writer.specs.promises.Classes.{entered_classes}

-- what main sees, where the classes begin in this row
pub record BeginPost (tab : List ℕ) (n classes first : ℕ) (names : List ℕ) : Type 0 where
  pub fields : FieldsHeld tab n classes absent names
  pub sizes : (ts : List Token) (G : List Class) → ClassTableHeld tab n ts G → length G ≡ classes → row_classes G ≡ first
      → SizesHeld ts G names

-- main sees no names of its own
pub record SeesNone (s : Scope) : Type 0 where
  pub owner : s.owner ≡ absent
  pub parameters : s.parameters ≡ absent
  pub locals : s.locals ≡ absent

pub record MainPost (tab names : List ℕ) (n classes : ℕ) (c c' : List ℕ) (r : ℕ) : Type 0 where
  pub within : r ≤ room
  pub says : (ts : List Token) (p : Program) → Ready tab n ts p → length p.classes ≡ classes
      → SizesHeld ts p.classes names → suc (end p.statement 0) ≤ room
      → Wrote (first_named ts) (λ k. emit p.classes main_context p.statement 0 (halt ∷ k)) (suc (end p.statement 0)) 0 c c' r

-- whatever the accepted program is that the table holds
pub record Writes (tab : List ℕ) (n classes : ℕ) (c c' E E' : List ℕ) : Type 0 where
  pub says : (ts : List Token) (p : Program) → Ready tab n ts p → DerivesProgram ts p → length p.classes ≡ classes
      → (c' ≡ store (first_named ts) (compile p).instructions 0 c) × (E' ≡ entered_classes p.classes (suc (end p.statement 0)) E)
