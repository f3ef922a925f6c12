-- What a body sees, as the code has it, and what the look-up of a name ensures.
use Rattle.std.specs.Prelude.{ℕ, ◌+◌, ◌≤◌, ◌≡◌, List, ◌++◌, length}
use Rattle.std.proofs.Math.Option.{Option}
use Rattle.lexer.specs.Tokens.{Token}
use Rattle.parser.specs.Tree.{Sort, Part, Expression, Statement, Variable, Class}
use Rattle.reader.specs.promises.Spans.{Spans}
use Rattle.reader.specs.promises.WalkPost.{Walkable}
use Rattle.typesystem.specs.ClassTable.{Context, Meaning, meaning, meaning_type}
use Rattle.lookup.specs.promises.HeldClasses.{NameNumber, MaybeNumber, ClassTableHeld, ListedAt}
use Rattle.lookup.specs.promises.Lookups.{LookedUp}
use Rattle.lookup.specs.promises.Fields.{FieldsHeld, fields_least}
use Rattle.lookup.specs.promises.Shows.{PartAt, Form, Shows, ShowsS}
use Rattle.bodies.specs.declared.scope.Scope.{Scope}

-- a table of so many tokens, and what the fields of the declaring class mean
pub record Judgeable (tab fields : List ℕ) (s : Scope) : Type 0 where
  pub walkable : Walkable tab s.tokens
  pub room : fields_least ≤ length fields
  pub held : FieldsHeld tab s.tokens s.classes s.owner fields

-- the scope is that of the context, in the class table that the table holds
pub record InScope (tab : List ℕ) (ts : List Token) (G : List Class) (Γ : Context) (s : Scope) : Type 0 where
  pub world : ClassTableHeld tab s.tokens ts G
  pub many : length G ≡ s.classes
  pub declarer : MaybeNumber ts Γ.owner s.owner
  pub given : List Variable
  pub own : List Variable
  pub seen : Γ.variables ≡ given ++ own
  pub given-listed : ListedAt tab s.tokens ts s.parameters given
  pub own-listed : ListedAt tab s.tokens ts s.locals own

-- a part lies in a row, and among the tokens from `first` up to `end`
abbrev pub PartIn : (tab : List ℕ) (ts : List Token) (row first end : ℕ) {q : Sort} → Part q → Type 0
PartIn tab ts row first end {q} t = PartAt tab ts row (Spans {s = q} first end) t

-- a row shows this form of an expression that lies among the tokens from `first` up to `end`: its parts lie before the row, or behind it
abbrev pub ShowsIn : (tab : List ℕ) (ts : List Token) (n first end row : ℕ) → Form → Expression → Type 0
ShowsIn tab ts n first end row = Shows tab ts n row (λ (q : Sort). Spans {s = q} first row) (λ (q : Sort). Spans {s = q} (row + 1) end)

-- a row shows this form of a statement, whose parts lie among the tokens from `first` up to `end`
abbrev pub ShowsStatement : (tab : List ℕ) (ts : List Token) (first end row : ℕ) → Form → Statement → Type 0
ShowsStatement tab ts first end row = ShowsS tab ts row (λ (q : Sort). Spans {s = q} first end)

-- the type of what a name means, by number
abbrev pub Means : List Token → Option Meaning → ℕ → Type 0
Means ts o w = LookedUp ts meaning_type o w

pub record NameTyped (tab : List ℕ) (s : Scope) (x : ℕ) (r : ℕ) : Type 0 where
  pub says : (ts : List Token) (G : List Class) (Γ : Context) → InScope tab ts G Γ s → (text : List ℕ) → NameNumber ts text x
      → Means ts (meaning G Γ text) r
