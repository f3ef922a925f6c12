-- What the functions that walk a tree ensure, whatever the tree is that the table holds: they write its tokens.
use Rattle.std.specs.Prelude.{ℕ, ◌+◌, ◌≤◌, ◌<◌, ◌≡◌, List, [], ◌∷◌, ◌++◌, length, leb}
use Rattle.base.specs.Outcome.{accepted}
use Rattle.base.specs.Word.{modulus}
use Rattle.base.specs.promises.Table.{c_second, c_third}
use Rattle.lexer.specs.Bytes.{b_space}
use Rattle.lexer.specs.Kinds.{k_new, k_dot, k_else, k_semicolon, k_open, k_close, k_close_brace}
use Rattle.lexer.specs.Tokens.{Token, tokens}
use Rattle.parser.specs.Tree.{Sort, Sort.expression, Sort.arguments, Sort.statement, Sort.statements, Part, Expression, Statement}
use Rattle.parser.specs.Stream.{token_at}
use Rattle.parser.specs.Measure.{nodes}
use Rattle.lookup.specs.promises.HeldClasses.{word_at, Lexemes}
use Rattle.lookup.specs.promises.Shows.{PartAt, Form, Shows, ShowsS}
use Rattle.printing.specs.Printed.{Lexeme, spelt, own, tightness, bracketed, bare, render}
use Rattle.printing.proofs.laws.Lexing.{lexeme}
use Rattle.printer.specs.declared.job.Job.{Job}
use Rattle.printer.specs.promises.Puts.{text_room, Puts}

-- the part to which column k leads, from a place on
pub record PartReached (tab : List ℕ) (k : ℕ) (job : Job) (at : ℕ) (r : Job) : Type 0 where
  pub nodes : r.left ≡ job.left
  pub leads : r.row ≡ word_at tab k job.row
  pub begins : r.at ≡ at
  pub low : r.row < modulus

-- the class that the right operand of an operator of class w must reach
pub record Tighter (w r : ℕ) : Type 0 where
  pub says : w < 4 → r ≡ w + 1

-- a part of at most so many nodes
abbrev pub AtMost : ℕ → (q : Sort) → Part q → Type 0
AtMost left q t = nodes t ≤ left

-- the tokens of a part in a place that wants class w
abbrev pub placed : ℕ → {q : Sort} → Part q → List Lexeme
placed w t = bracketed (leb w (tightness (own t))) (λ r. bare t r) []

module _ (s tab : List ℕ) (n : ℕ) where
  -- whatever the tokens of the source are, which the table has
  abbrev pub Whatever : (List Token → Type 0) → Type 0
  Whatever P = (ts : List Token) → tokens s ≡ accepted ts → Lexemes tab n ts → P ts

  -- a part, in a place that wants class w
  pub record PartPut (q : Sort) (w : ℕ) (job : Job) (c c' : List ℕ) (r : ℕ) : Type 0 where
    pub within : r ≤ text_room
    pub says : Whatever λ ts. (t : Part q) → PartAt tab ts job.row (AtMost job.left q) t
        → Puts job.at (render (placed w t)) c c' r

  -- an expression whose row shows this form; `left` bounds its parts
  pub record FormPut (F : Form) (job : Job) (c c' : List ℕ) (r : ℕ) : Type 0 where
    pub within : r ≤ text_room
    pub says : Whatever λ ts. (e : Expression) → PartAt tab ts job.row (AtMost (job.left + 1) expression) e
        → Shows tab ts n job.row (AtMost job.left) (AtMost job.left) F e → Puts job.at (render (bare e [])) c c' r

  -- an expression and a mark, with a space
  pub record EnclosedPut (close : ℕ) (job : Job) (c c' : List ℕ) (r : ℕ) : Type 0 where
    pub within : r ≤ text_room
    pub says : Whatever λ ts. (e : Expression) → PartAt tab ts job.row (AtMost job.left expression) e
        → Puts job.at (render (bare e []) ++ close ∷ b_space ∷ []) c c' r

  -- arguments and `)`
  pub record GivenPut (job : Job) (c c' : List ℕ) (r : ℕ) : Type 0 where
    pub within : r ≤ text_room
    pub says : Whatever λ ts. (es : Part arguments) → PartAt tab ts job.row (AtMost job.left arguments) es
        → Puts job.at (render (bare es [] ++ spelt k_close ∷ [])) c c' r

  -- `new` and the token after it; a point, the token after it, and `(`
  pub record MadePut (row at : ℕ) (c c' : List ℕ) (r : ℕ) : Type 0 where
    pub within : r ≤ text_room
    pub says : Whatever λ ts. row + 1 < length ts → Puts at (render (spelt k_new ∷ lexeme (token_at ts (row + 1)) ∷ [])) c c' r

  pub record MemberPut (row at : ℕ) (c c' : List ℕ) (r : ℕ) : Type 0 where
    pub within : r ≤ text_room
    pub says : Whatever λ ts. row + 1 < length ts
        → Puts at (render (spelt k_dot ∷ lexeme (token_at ts (row + 1)) ∷ spelt k_open ∷ [])) c c' r

  -- a statement whose row shows this form
  pub record StatementPut (F : Form) (job : Job) (c c' : List ℕ) (r : ℕ) : Type 0 where
    pub within : r ≤ text_room
    pub says : Whatever λ ts. (t : Statement) → PartAt tab ts job.row (AtMost (job.left + 1) statement) t
        → ShowsS tab ts job.row (AtMost job.left) F t → Puts job.at (render (bare t [])) c c' r

  -- an expression and `;`, an expression, `)` and `;`
  pub record ValuePut (job : Job) (c c' : List ℕ) (r : ℕ) : Type 0 where
    pub within : r ≤ text_room
    pub says : Whatever λ ts. (e : Expression) → PartAt tab ts job.row (AtMost job.left expression) e
        → Puts job.at (render (bare e [] ++ spelt k_semicolon ∷ [])) c c' r

  pub record FinishedPut (job : Job) (c c' : List ℕ) (r : ℕ) : Type 0 where
    pub within : r ≤ text_room
    pub says : Whatever λ ts. (e : Expression) → PartAt tab ts job.row (AtMost job.left expression) e
        → Puts job.at (render (bare e [] ++ spelt k_close ∷ spelt k_semicolon ∷ [])) c c' r

  -- statements and `}`
  pub record BracedPut (job : Job) (c c' : List ℕ) (r : ℕ) : Type 0 where
    pub within : r ≤ text_room
    pub says : Whatever λ ts. (ss : Part statements) → PartAt tab ts job.row (AtMost job.left statements) ss
        → Puts job.at (render (bare ss [] ++ spelt k_close_brace ∷ [])) c c' r

  -- the two statements behind a test
  pub record BranchesPut (job : Job) (at : ℕ) (c c' : List ℕ) (r : ℕ) : Type 0 where
    pub within : r ≤ text_room
    pub says : Whatever λ ts. (x y : Statement) → PartAt tab ts (word_at tab c_second job.row) (AtMost job.left statement) x
        → PartAt tab ts (word_at tab c_third job.row) (AtMost job.left statement) y
        → Puts at (render (bare x [] ++ ((spelt k_else ∷ []) ++ bare y []))) c c' r
