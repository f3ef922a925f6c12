-- What is written into the strip: bytes, and the token of a row.
use Rattle.std.specs.Prelude.{ℕ, ◌+◌, ◌-◌, ◌≤◌, ◌<◌, ◌≡◌, List, [], ◌∷◌, length, take, drop}
use Rattle.std.proofs.lemmas.List.Edits.{sets}
use Rattle.base.specs.Codes.{source_most, tokens_most}
use Rattle.base.specs.Outcome.{accepted}
use Rattle.lexer.specs.Tokens.{Token, tokens}
use Rattle.parser.specs.Stream.{token_at}
use Rattle.lookup.specs.promises.HeldClasses.{Lexemes}
use Rattle.printing.specs.Printed.{render}
use Rattle.printing.proofs.laws.Lexing.{lexeme}

-- how many bytes are counted; no text is longer (`text-most`)
abbrev pub text_room : ℕ
text_room = source_most + tokens_most

-- the bytes of a text from i up to `end`
abbrev pub bytes_between : (i end : ℕ) → List ℕ → List ℕ
bytes_between i end text = take (end - i) (drop i text)

-- a strip after these bytes, from place i on; past its end nothing is written, so an empty strip serves to count
pub record BytesPut (before : List ℕ) (i : ℕ) (bs after : List ℕ) (j : ℕ) : Type 0 where
  pub bytes : after ≡ sets before i bs
  pub end : j ≡ i + length bs

-- the place behind so many bytes that there is room for
pub record Skips (at n r : ℕ) : Type 0 where
  pub within : r ≤ text_room
  pub end : at + n ≤ text_room → r ≡ at + n

-- bytes that there is room for are written at `at`, and the answer is the place behind them
pub record Puts (at : ℕ) (bs before after : List ℕ) (r : ℕ) : Type 0 where
  pub within : r ≤ text_room
  pub says : at + length bs ≤ text_room → BytesPut before at bs after r

-- the token in a row of a table that has the tokens of the source
pub record TokenPut (s tab : List ℕ) (row at : ℕ) (before after : List ℕ) (r : ℕ) : Type 0 where
  pub within : r ≤ text_room
  pub says : (n : ℕ) (ts : List Token) → tokens s ≡ accepted ts → Lexemes tab n ts → row < length ts
      → Puts at (render (lexeme (token_at ts row) ∷ [])) before after r
