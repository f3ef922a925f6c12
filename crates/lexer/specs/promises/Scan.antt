-- What the functions that scan a source answer: the definitions of the tokens in terms of positions.
use Rattle.std.specs.Prelude.{ℕ, ◌+◌, ◌<◌, List, Bool, ◌&&◌, not, Option as Found, Some, None, ◌≡◌, length, get_or, eqb}
use Rattle.std.proofs.Math.Option.{Option, none, some}
use Rattle.base.specs.Choice.{if◌then◌otherwise◌}
use Rattle.lexer.specs.Bytes.{b_line_feed, b_slash, b_star, is_digit_lem, is_name_part_lem}
use Rattle.lexer.specs.ByteKinds.{b_letter, b_digit, b_mark, byte_kind}
use Rattle.lexer.specs.Tokens.{Item, gap, unclosed, nothing, token}
use Rattle.lexer.specs.declared.scan.Class.{Class}
use Rattle.lexer.specs.declared.scan.Class.TheVariants.{Line, Word, Number}
use Rattle.lexer.specs.declared.scan.Delimiter.{Delimiter}
use Rattle.lexer.specs.declared.scan.Delimiter.TheVariants.{Open, Close, Other}
use Rattle.lexer.specs.declared.scan.Piece.{Piece}
use Rattle.lexer.specs.declared.scan.Piece.TheVariants.{Gap, Unclosed, Nothing, Token}

-- a byte of a line comment, of a word, of a literal
abbrev pub member : Class → ℕ → Bool
member Line b = not (eqb b b_line_feed)
member Word b = is_name_part_lem b
member Number b = is_digit_lem b

abbrev pub delimiter_of_lem : ℕ → ℕ → Delimiter
delimiter_of_lem a b =
    if eqb a b_slash && eqb b b_star then (λ _. Open) otherwise λ _.
    if eqb a b_star && eqb b b_slash then (λ _. Close) otherwise λ _. Other

abbrev pub closing_of : Option ℕ → Found ℕ
closing_of none = None
closing_of (some i) = Some i

-- the item that begins at i
abbrev pub piece_of : ℕ → Item → Piece
piece_of i (gap j) = Gap j
piece_of i unclosed = Unclosed
piece_of i nothing = Nothing
piece_of i (token k t) = Token k (i + length t)

-- a letter stands at i
pub record Letter (s : List ℕ) (i : ℕ) : Type 0 where
  pub inside : i < length s
  pub kind : byte_kind (get_or s i 0) ≡ b_letter

-- a digit stands at i
pub record Digit (s : List ℕ) (i : ℕ) : Type 0 where
  pub inside : i < length s
  pub kind : byte_kind (get_or s i 0) ≡ b_digit

-- at i stands b, a mark
pub record Mark (s : List ℕ) (i b : ℕ) : Type 0 where
  pub inside : i < length s
  pub is : b ≡ get_or s i 0
  pub kind : byte_kind b ≡ b_mark
