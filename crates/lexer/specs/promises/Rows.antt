-- What the lexer leaves in the work table, one row for each token: `c_kind` is the token's kind, `c_start` its position, and `c_number` the
-- number of a name or the value of a literal. The other columns may hold anything.
use Rattle.std.specs.Prelude.{ℕ, Result, Ok, ◌+◌, ◌≤◌, List, [], ◌∷◌, true, ◌&&◌, ◌≡◌, length}
use Rattle.std.proofs.Math.Option.{some}
use Rattle.std.proofs.Math.ListN.{get_elem?}
use Rattle.base.specs.Bytes.{same}
use Rattle.base.specs.Choice.{if◌then◌otherwise◌}
use Rattle.base.specs.Codes.{tokens_most}
use Rattle.base.specs.Outcome.{Outcome, accepted, refused}
use Rattle.base.specs.declared.refusal.Refusal.{Refusal}
use Rattle.base.specs.promises.Refusals.{Refuses}
use Rattle.base.specs.promises.Table.{col, c_kind, c_start, c_number}
use Rattle.lexer.specs.Kinds.{k_literal, k_fixed_literal, is_name_lem}
use Rattle.lexer.specs.Tokens.{Token, decimal, thousandths_of_lem}

-- the number of a name: that of the first token that is a name with this text, and the number of tokens where there is none
unfoldable pub first_named : List Token → List ℕ → ℕ
first_named [] text = 0
first_named (t ∷ ts) text = if is_name_lem t.kind && same t.text text then (λ _. 0) otherwise λ _. first_named ts text + 1

-- row i holds t, a token of ts
pub record RowOf (tab : List ℕ) (ts : List Token) (i : ℕ) (t : Token) : Type 0 where
  pub kind : col tab c_kind i ≡ t.kind
  pub start : col tab c_start i ≡ t.start
  pub name : is_name_lem t.kind ≡ true → col tab c_number i ≡ first_named ts t.text
  pub literal : t.kind ≡ k_literal → col tab c_number i ≡ decimal 0 t.text
  pub fixed : t.kind ≡ k_fixed_literal → col tab c_number i ≡ thousandths_of_lem t.text

-- the table has a row for each token
abbrev pub Rows : List ℕ → List Token → Type 0
Rows tab ts = (i : ℕ) (t : Token) → get_elem? ts i ≡ some t → RowOf tab ts i t

-- the answer r and the table are right, where the tokens of the source are as the definition has them
abbrev pub Lexes : Outcome (List Token) → Result ℕ Refusal → List ℕ → Type 0
Lexes (accepted ts) r tab = (r ≡ Ok (length ts)) × (length ts ≤ tokens_most) × Rows tab ts
Lexes (refused n p) r tab = Refuses r n p
