-- What the crates above may rely on once a program's tree is stored in the work table. It holds because the tree is derived from the
-- tokens: each node and each declaration has a row that is its token's, and no other has it.
use Rattle.std.specs.Prelude.{ℕ, ◌≤◌, ◌≡◌, refl, List, length}
use Rattle.base.specs.promises.Table.{rows, size}
use Rattle.lexer.specs.Tokens.{Token}
use Rattle.parser.specs.Tree.{Program}
use Rattle.parser.specs.Grammar.{DerivesProgram}
use Rattle.parser.specs.promises.Layout.{store_program}
use Rattle.parser.specs.Measure.{program_nodes}
use Rattle.reader.specs.promises.Holds.{HoldsProgram}
use Rattle.reader.specs.promises.Matches.{ProgramMatches}
use Rattle.reader.specs.laws.Matching.{program-matches}
use Rattle.reader.specs.laws.Stored.{program-lies}
use Rattle.reader.specs.laws.Counting.{program-nodes}
use Rattle.reader.specs.laws.Kept.{SameTree, program-kept}

module _ (ts : List Token) (p : Program) (d : DerivesProgram ts p) where
  -- A derived program matches its tokens.
  pub matches : ProgramMatches ts p
  matches = program-matches d

  -- It has at most as many nodes as there are tokens.
  pub few-nodes : program_nodes p ≤ length ts
  few-nodes = program-nodes d

  -- Storing it keeps the table's length.
  pub stored-length : (tab : List ℕ) → length (store_program p tab) ≡ length tab
  stored-length tab = (program-lies d).long tab

  module _ (short : length ts ≤ rows) (tab : List ℕ) where
    -- A table into which it was stored holds it.
    pub holds : size ≤ length tab → HoldsProgram (store_program p tab) p
    holds large = (program-lies d).holds short tab (store_program p tab) large (λ k i _ _. refl)

-- A table that holds a program still holds it after changes that leave columns `c_begin` to `c_next` and, in the rows of `if` tokens, `c_third`.
pub still-holds : (ts : List Token) (p : Program) → ProgramMatches ts p → length ts ≤ rows → (tab tab' : List ℕ) → SameTree ts tab tab'
    → HoldsProgram tab p → HoldsProgram tab' p
still-holds ts p m short tab tab' same h = program-kept short same p m h
