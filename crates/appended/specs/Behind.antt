-- What is put behind the bytes of a text, so that the item that these begin with stays what it is.
use Rattle.std.specs.Prelude.{ℕ, ◌<◌, ◌≢◌, ◌⊎◌, ◌≡◌, List, length, get_or}
use Rattle.lexer.specs.Bytes.{b_line_feed, b_dot}

-- nothing is put behind, or something that begins with a line feed
abbrev pub NewLine : List ℕ → Type 0
NewLine u = get_or u 0 b_line_feed ≡ b_line_feed

-- more than one byte, or one that is no point, or a new line behind
abbrev pub Settled : List ℕ → List ℕ → Type 0
Settled rest u = ((0 < length rest) × (length rest ≡ 1 → get_or rest 0 0 ≢ b_dot)) ⊎ NewLine u
