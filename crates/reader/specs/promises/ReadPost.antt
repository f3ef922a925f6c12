-- What the functions of Read ensure: the answer of the definition, and where it accepts, the tokens and the tree in the table.
use Rattle.std.specs.Prelude.{ℕ, ◌≤◌, ◌≡◌, List, length, ltb, Result, Ok, Err}
use Rattle.base.specs.Choice.{if◌then◌otherwise◌, option}
use Rattle.base.specs.Codes.{success, source_most, tokens_most}
use Rattle.base.specs.Outcome.{Outcome, accepted, refused}
use Rattle.base.specs.declared.refusal.Reason.TheVariants as reason
use Rattle.base.specs.declared.refusal.Refusal.{Refusal}
use Rattle.base.specs.promises.Refusals.{number_of, refusal, Refuses}
use Rattle.base.specs.promises.Table.{col, c_start}
use Rattle.lexer.specs.Tokens.{Token, tokens}
use Rattle.lexer.specs.promises.Rows.{Rows}
use Rattle.parser.specs.Tree.{Program}
use Rattle.parser.specs.Grammar.{DerivesProgram}
use Rattle.parser.specs.Measure.{program_nodes, program_deep}
use Rattle.parser.specs.promises.Post.{TokensIn}
use Rattle.parser.specs.Read.{Reading, reading, ReadAnswer as SpecAnswer}
use Rattle.reader.specs.declared.read.Counts.{Counts}
use Rattle.reader.specs.promises.Holds.{HoldsProgram}
use Rattle.reader.specs.promises.Matches.{ProgramMatches}
use Rattle.reader.specs.promises.WalkPost.{ProgramOrdered}

-- the table holds the tokens and the tree of an accepted source
pub record Filling (tab : List ℕ) (r : Reading) : Type 0 where
  pub rows : Rows tab r.stream
  pub few : length r.stream ≤ tokens_most
  pub holds : HoldsProgram tab r.tree
  pub derived : DerivesProgram r.stream r.tree

-- a tree of so many tokens and nodes
abbrev pub tree : (tokens nodes : ℕ) → Result Counts Refusal
tree n k = Ok (record { tokens = n; nodes = k })

-- the answer and the table are right, where reading answers this
abbrev pub Fills : Outcome Reading → Result Counts Refusal → List ℕ → Type 0
Fills (accepted r) a tab = (a ≡ tree (length r.stream) (program_nodes r.tree)) × Filling tab r
Fills (refused n p) a tab = Refuses a n p

-- of the stages after the lexer, whatever the source is whose tokens the table holds
pub record GrowPost (n size : ℕ) (before : List ℕ) (a : Result Counts Refusal) (after : List ℕ) : Type 0 where
  pub says : (s : List ℕ) (ts : List Token) → length s ≡ size → length s ≤ source_most → tokens s ≡ accepted ts → length ts ≡ n
      → Rows before ts
      → Fills (reading s) a after

-- of the last stage, whatever the tree is that the table holds
pub record MeasurePost (tab : List ℕ) (n : ℕ) (a : Result Counts Refusal) : Type 0 where
  pub says : (ts : List Token) → TokensIn tab n ts → (p : Program) → HoldsProgram tab p → ProgramMatches ts p → ProgramOrdered p
      → a ≡ option (program_deep p) (tree n (program_nodes p)) λ at. refusal reason.TooDeep at

-- the position of token k, or the source's length
unfoldable pub place_in : List ℕ → (n k size : ℕ) → ℕ
place_in tab n k size = if ltb k n then (λ _. col tab c_start k) otherwise λ _. size

-- the code's answer as document 01 counts it
abbrev pub read_answer_of : Result Counts Refusal → SpecAnswer
read_answer_of (Ok c) = record { number = success; position = 0; tokens = c.tokens; nodes = c.nodes }
read_answer_of (Err r) = record { number = number_of r.reason; position = r.position; tokens = 0; nodes = 0 }
