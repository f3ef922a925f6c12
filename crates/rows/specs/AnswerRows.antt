-- Rows of our own for what Read and Check answer themselves, as theorems about the two operations' definitions, closed by computation; the
-- answers are worked out by hand from document 01.
use Rattle.std.specs.Prelude.{ℕ, ◌≡◌, refl, List, [], ◌∷◌, map, replicate}
use Rattle.base.specs.Bytes.{bytes}
use Rattle.lexer.specs.Bytes.{b_space, b_small_a}
use Rattle.parser.specs.Measure.{nodes, methods_nodes, classes_nodes, program_nodes}
use Rattle.parser.specs.Read.{ReadAnswer, read}
use Rattle.typesystem.specs.Check.{CheckAnswer, check}
use Rattle.semantics.specs.Ends.{end_of, printing}
use Rattle.rows.specs.Further.{declaring}

-- a source, the length of the work table, and Read's answer
pub record ReadRow : Type 0 where
  pub source : List ℕ
  pub table : ℕ
  pub answer : ReadAnswer

abbrev pub read_row : List ℕ → (table number position tokens nodes : ℕ) → ReadRow
read_row s table n p tokens nodes =
    record { source = s; table = table; answer = record { number = n; position = p; tokens = tokens; nodes = nodes } }

abbrev pub read_rows : List ReadRow
read_rows =
    -- the statement, the sum, 1 and 2; parentheses make no node
    read_row (printing (bytes "1+2")) 16384 0 0 27 4 ∷
    read_row (printing (bytes "(1+(2))")) 16384 0 0 31 4 ∷
    -- 1 comes before everything else
    read_row (printing (bytes "1+2")) 16383 1 0 0 0 ∷
    read_row (replicate 16385 b_space) 16383 1 0 0 0 ∷
    read_row (replicate 16385 b_space) 16384 10 0 0 0 ∷
    -- a lone `&`, and a byte that begins no token
    read_row (printing (bytes "1&2")) 16384 11 64 0 0 ∷
    read_row (printing (bytes "1 @")) 16384 11 65 0 0 ∷
    -- identifiers of 255 and of 256 bytes
    read_row (printing (replicate 255 b_small_a)) 16384 0 0 25 2 ∷
    read_row (printing (replicate 256 b_small_a)) 16384 13 63 0 0 ∷
    []

pub readings : map (λ (r : ReadRow). read r.source r.table) read_rows ≡ map (λ (r : ReadRow). r.answer) read_rows
unfolding end_of nodes methods_nodes classes_nodes program_nodes read
readings = refl

-- a source, the length of the work table, and Check's answer
pub record CheckRow : Type 0 where
  pub source : List ℕ
  pub table : ℕ
  pub answer : CheckAnswer

abbrev pub checks : List ℕ → (table number position classes : ℕ) → CheckRow
checks s table n p classes = record { source = s; table = table; answer = record { number = n; position = p; classes = classes } }

abbrev pub check_rows : List CheckRow
check_rows =
    -- the main class is in no class table
    checks (printing (bytes "1")) 16384 0 0 0 ∷
    checks (declaring (bytes " class A{} class B extends A{}")) 16384 0 0 2 ∷
    checks (declaring (bytes " class A{} class B extends A{}")) 16383 1 0 0 ∷
    -- a refusal gives 0 classes
    checks (declaring (bytes " class A{} class A{}")) 16384 20 85 0 ∷
    []

pub checkings : map (λ (r : CheckRow). check r.source r.table) check_rows ≡ map (λ (r : CheckRow). r.answer) check_rows
unfolding end_of check
checkings = refl
