-- What the look-up in the table of operators ensures.
use Rattle.std.specs.Prelude.{ℕ, ◌≡◌, List}
use Rattle.lexer.specs.Tokens.{Token}
use Rattle.parser.specs.Tree.{Operator, Ty}
use Rattle.reader.specs.promises.Matches.{operator_kind}
use Rattle.typesystem.specs.Operators.{operation}
use Rattle.lookup.specs.promises.HeldClasses.{Lexemes, no_type, Codes, int_number, number_of_fixed}
use Rattle.lookup.specs.promises.Lookups.{LookedUp}

-- one line: a left operand of type `want` makes `result`
pub data LinePost (left want result : ℕ) : ℕ → Type 0 where
  has-line : left ≡ want → LinePost left want result result
  no_line : (left ≡ want → ⊥) → LinePost left want result no_type

-- two lines: int makes `integer`, fixed makes `fixed`
pub data NumericPost (left integer fixed : ℕ) : ℕ → Type 0 where
  int-line : left ≡ int_number → NumericPost left integer fixed integer
  fixed-line : {r : ℕ} → (left ≡ int_number → ⊥) → LinePost left number_of_fixed fixed r → NumericPost left integer fixed r

pub record OperationPost (kind left r : ℕ) : Type 0 where
  pub says : (tab : List ℕ) (n : ℕ) (ts : List Token) → Lexemes tab n ts → (o : Operator) → kind ≡ operator_kind o
      → (t : Ty) → Codes ts t left → LookedUp ts (λ (u : Ty). u) (operation o t) r
