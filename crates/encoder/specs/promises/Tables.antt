-- Tables of an accepted lesson.
use Rattle.std.specs.Prelude.{ℕ, suc, ◌+◌, ◌*◌, ◌≤◌, ◌≡◌, List, [], ◌∷◌, map, length, get_or}
use Rattle.std.proofs.Math.Option.{some}
use Rattle.std.proofs.Math.ListN.{get_elem?}
use Rattle.base.specs.promises.Table.{col, c_next}
use Rattle.lexer.specs.Tokens.{Token}
use Rattle.parser.specs.Tree.{Class, Program}
use Rattle.parser.specs.Grammar.{DerivesProgram}
use Rattle.parser.specs.promises.Layout.{row_classes}
use Rattle.lookup.specs.promises.HeldClasses.{NameNumber, ClassTableHeld}
use Rattle.declarations.specs.promises.Judgements.{ClassesAt}
use Rattle.codegen.specs.promises.Code.{ClassRow, climb}
use Rattle.codegen.specs.promises.Compile.{end, rows_of}
use Rattle.writer.specs.promises.Classes.{entered_classes}
use Rattle.typesystem.specs.TypingRules.{class_name, ProgramTyped}
use Rattle.frames.specs.Lines.{Line}
use Rattle.frames.specs.Encode.{entry_line, tables}
use Rattle.encoder.specs.declared.plan.Plan.{Plan}
use Rattle.encoder.specs.promises.Strip.{Puts}

-- the rows of its code
abbrev pub rows_for : Program → List ClassRow
rows_for g = rows_of g.classes (suc (end g.statement 0))

-- what the arrays hold of it
pub record Lesson (tab entries : List ℕ) (p : Plan) (ts : List Token) (g : Program) : Type 0 where
  pub world : ClassTableHeld tab p.tokens ts g.classes
  pub first : col tab c_next 0 ≡ row_classes g.classes
  pub many : length g.classes ≡ p.classes
  pub derived : DerivesProgram ts g
  pub typed : ProgramTyped g
  pub before : List ℕ
  pub room : length ts ≤ length before
  pub entered : entries ≡ entered_classes g.classes (suc (end g.statement 0)) before

-- the line of a class in the table of a method name
abbrev pub line_for : Program → (class method : List ℕ) → Line
line_for g c m = entry_line (climb (length (rows_for g)) (rows_for g) c m)

pub record OfClassPost (tab entries : List ℕ) (p : Plan) (c x at : ℕ) (before after : List ℕ) (r : ℕ) : Type 0 where
  pub within : r ≡ at + 11
  pub says : (ts : List Token) (g : Program) → Lesson tab entries p ts g → (class : List ℕ) → NameNumber ts class c → (method : List ℕ)
      → NameNumber ts method x → Puts at (line_for g class method ∷ []) before after r

pub record OfMethodPost (tab entries : List ℕ) (p : Plan) (x left row at : ℕ) (before after : List ℕ) (r : ℕ) : Type 0 where
  pub within : r ≤ at + 11 * left
  pub says : (ts : List Token) (g : Program) → Lesson tab entries p ts g → (ks : List Class) → ClassesAt tab p.tokens ts ks left row
      → (method : List ℕ) → NameNumber ts method x → Puts at (map (λ k. line_for g (class_name k) method) ks) before after r

pub record TablesPost (tab entries names : List ℕ) (p : Plan) (j left at : ℕ) (before after : List ℕ) (r : ℕ) : Type 0 where
  pub within : r ≤ at + 22528 * left
  pub says : (ts : List Token) (g : Program) → Lesson tab entries p ts g → (ms : List (List ℕ)) → length ms ≡ left
      → ((i : ℕ) (m : List ℕ) → get_elem? ms i ≡ some m → NameNumber ts m (get_or names (j + i) 0))
      → Puts at (tables (rows_for g) ms) before after r
