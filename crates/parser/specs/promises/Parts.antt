-- What the functions ensure that look for tokens, and those that read a piece of the definition.
use Rattle.std.specs.Prelude.{ℕ, ◌+◌, ◌*◌, ◌-◌, ◌≤◌, ◌<◌, ◌≡◌, List, [], ◌∷◌, length, true, false, Result, Ok, Err}
use Rattle.lexer.specs.Kinds.{k_open, k_close}
use Rattle.lexer.specs.Tokens.{Token}
use Rattle.parser.specs.declared.answer.Misfit.{Misfit}
use Rattle.parser.specs.Tree.{Sort.expression, Expression}
use Rattle.parser.specs.Parse.{Parsed, ok, bind, accepts, expect, an_expression, parse_as}
use Rattle.parser.specs.promises.Answers.{Answer}
use Rattle.parser.specs.promises.Layout.{given}
use Rattle.parser.specs.promises.Post.{kind_in_table, matched_in, TokensIn, Stored, part, Met, Within}

-- kinds of tokens that are there: that of none is 0
abbrev pub Kinds : List ℕ → Type 0
Kinds [] = Unit {0}
Kinds (q ∷ qs) = (0 < q) × Kinds qs

-- the number of the token behind one of this kind
pub data Expected (tab : List ℕ) (n wanted i : ℕ) : Result ℕ Misfit → Type 0 where
  present : accepts wanted (kind_in_table tab n i) ≡ true → Expected tab n wanted i (Ok (i + 1))
  missing : accepts wanted (kind_in_table tab n i) ≡ false → Expected tab n wanted i (Err (record { token = i }))

-- the number of the token behind tokens of these kinds
pub data ExpectedAll (tab : List ℕ) (n : ℕ) (kinds : List ℕ) (i : ℕ) : Result ℕ Misfit → Type 0 where
  all_present : length kinds ≤ matched_in tab n i kinds → ExpectedAll tab n kinds i (Ok (i + length kinds))
  one_missing : matched_in tab n i kinds < length kinds → ExpectedAll tab n kinds i (Err (record { token = i + matched_in tab n i kinds }))

-- what a parser ensures that reads a piece of which P is the definition, whatever the tokens are that the table holds and whatever fuel
-- there is, if it is enough
pub record PiecePost {A : Type 0} (S : Stored A) (P : ℕ → List Token → Parsed A) (enough low n top : ℕ)
    (before : List ℕ) (r : Answer) (after : List ℕ) : Type 0 where
  pub kept : given after ≡ given before
  pub within : Within low n top r
  pub says : (ts : List Token) → TokensIn before n ts → (f : ℕ) → enough < f → Met S before after r (P f ts)

-- the test of an `if` or a `while` that begins at token i, in its parentheses
abbrev pub test_from : (i : ℕ) → (fuel : ℕ) → List Token → Parsed Expression
test_from i f ts = expect ts k_open (i + 1) λ j. bind (parse_as f ts an_expression j) λ e j. expect ts k_close j λ j. ok e j

pub record TestPost (n i : ℕ) (before : List ℕ) (r : Answer) (after : List ℕ) : Type 0 where
  pub piece : PiecePost (part expression) (test_from i) (16 * (n - (i + 1)) + 15) (i + 1) n n before r after
