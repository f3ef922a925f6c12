-- Document 01, "Bytes to tokens": the fuel of the definition of a source's tokens is never used up, so it is no part of what they are. It
-- holds since every item passes at least one byte (TokenLaws).
use Rattle.std.specs.Prelude.{ℕ, suc, ◌+◌, ◌≤◌, ◌≡◌, List, [], length, drop, leb}
use Rattle.std.proofs.Common.{arith}
use Rattle.base.specs.Choice.{if◌then◌otherwise◌}
use Rattle.base.specs.Outcome.{Outcome, accepted}
use Rattle.lexer.specs.Tokens.{Token, item, turn, tokens_from, tokens}
use Rattle.acceptance.specs.laws.TokenLaws.{any_fuel}

-- Any two fuels that are no smaller than the number of bytes left give the same tokens, or the same refusal.
pub fuel-unused : (s : List ℕ) (count i f g : ℕ) → length s ≤ i + f → length s ≤ i + g → tokens_from f s count i ≡ tokens_from g s count i
fuel-unused s count i f g = any_fuel f g s count i

-- the tokens from position i on, where `count` tokens stand before
abbrev pub tokens_at : List ℕ → (count i : ℕ) → Outcome (List Token)
tokens_at s count i = tokens_from (length s) s count i

-- They are read item by item, without a fuel: none past the last byte, else one turn with the item that begins there, after which they are
-- read on.
pub item-by-item : (s : List ℕ) (count i : ℕ)
    → tokens_at s count i ≡ (if leb (length s) i then (λ _. accepted []) otherwise λ _. turn (λ c j. tokens_at s c j) count i (item i (drop i s)))
unfolding tokens_from
item-by-item s count i = fuel-unused s count i (length s) (suc (length s)) (omega arith) (omega arith)

-- A source's tokens are those from position 0 on.
pub from-the-left : (s : List ℕ) → tokens s ≡ tokens_at s 0 0
unfolding tokens
from-the-left s = fuel-unused s 0 0 (length s + 1) (length s) (omega arith) (omega arith)
