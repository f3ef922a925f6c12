-- Digits and lines of a text, as the code reads them.
use Rattle.std.specs.Prelude.{ℕ, zero, suc, ◌+◌, ◌*◌, ◌/◌, ◌%◌, ◌<◌, List, [], ◌∷◌, ◌≡◌, length, get_or, drop, Option as Maybe, None, Some, Result, Ok, Err}
use Rattle.std.proofs.Math.Option.{Option, none, some}
use Rattle.base.specs.Choice.{option}
use Rattle.base.specs.declared.refusal.Reason.{Reason}
use Rattle.base.specs.declared.refusal.Refusal.{Refusal}
use Rattle.base.specs.promises.Refusals.{number_of}
use Rattle.base.specs.Outcome.{accepted, refused}
use Rattle.frames.specs.Lines.{Line, line, digit_of, digits, single_line, lines}
use Rattle.frames.specs.Machine.{Turn, ends, entered}
use Rattle.base.specs.Word.{modulus}
use Rattle.player.specs.declared.lines.Line.{Line as OwnLine}
use Rattle.frames.specs.Numbers.{line_bytes}

-- past every line in one number
abbrev pub without_line : ℕ
without_line = 1099511627776

-- how many lines are decoded once
abbrev pub decoded_lines : ℕ
decoded_lines = 8192

-- a digit's value, or 16
unfoldable pub digit_or : ℕ → ℕ
digit_or b = option (digit_of b) 16 λ d. d

-- what so many digits from a place on say, or 4294967296
unfoldable pub number_or : List ℕ → (at count : ℕ) → ℕ
number_or s i n = digits n 0 (drop i s) modulus λ v _. v

-- the line that a text begins with
unfoldable pub line_in : List ℕ → Option Line
line_in s = single_line s none λ x _. some x

-- a line in one number
abbrev pub number_of_line : OwnLine → ℕ
number_of_line x = x.code * modulus + x.operand

abbrev pub number_of_maybe : Maybe OwnLine → ℕ
number_of_maybe None = without_line
number_of_maybe (Some x) = number_of_line x

-- the same of a text; 2^40 where there is none
abbrev pub packed : Option Line → ℕ
packed none = without_line
packed (some x) = x.code * modulus + x.operand

unfoldable pub word_at : List ℕ → (at : ℕ) → ℕ
word_at s at = packed (line_in (drop at s))

abbrev pub unpacked : ℕ → Line
unpacked w = line (w / modulus) (w % modulus)

-- so many lines from a place on
unfoldable pub lines_at : List ℕ → (count at : ℕ) → List Line
lines_at s zero at = []
lines_at s (suc n) at = unpacked (word_at s at) ∷ lines_at s n (at + line_bytes)

-- the lines of a text that is of the form
abbrev pub lines_in : List ℕ → List Line
lines_in s = lines_at s (length s / line_bytes) 0

-- what is read is followed by a turn; where nothing is, the run ends with the number of the reason
abbrev pub followed : {A : Type 0} → Result A Reason → (A → Turn) → Turn
followed (Ok v) k = k v
followed (Err e) k = ends (number_of e)

-- the line from a place on
pub record LineAt (s : List ℕ) (at : ℕ) (r : Maybe OwnLine) : Type 0 where
  pub is : number_of_maybe r ≡ word_at s at
  pub small : (x : OwnLine) → r ≡ Some x → (number_of_line x < without_line) × (x.operand < modulus)

-- a text of the form, and its first lines
pub record Decoded (s : List ℕ) (first_lines : List OwnLine) : Type 0 where
  pub lines : lines s ≡ accepted (lines_in s)
  pub whole : line_bytes * (length s / line_bytes) ≡ length s
  pub first : (i : ℕ) (d : OwnLine) → i < decoded_lines → i < length s / line_bytes
      → (number_of_line (get_or first_lines i d) ≡ word_at s (line_bytes * i)) × ((get_or first_lines i d).operand < modulus)
  pub small : (i : ℕ) → i < length s / line_bytes → word_at s (line_bytes * i) < without_line

-- the same, and how many lines there are
abbrev pub Counted : (s : List ℕ) → (words : List OwnLine) → (count : ℕ) → Type 0
Counted s words n = Decoded s words × (n ≡ length s / line_bytes)

-- whether all lines are of the form, else the first byte of the first line that is not
pub record Form (s : List ℕ) (words : List OwnLine) (r : Result (Unit {0}) Refusal) : Type 0 where
  pub fine : (u : Unit {0}) → r ≡ Ok u → Decoded s words
  pub other : (e : Refusal) → r ≡ Err e → lines s ≡ refused (number_of e.reason) e.position

-- line number i
pub record FrameAt (s : List ℕ) (i : ℕ) (r : OwnLine) : Type 0 where
  pub is : number_of_line r ≡ word_at s (line_bytes * i)
  pub fits : r.operand < modulus

-- the operand of the `entry` at a line
pub record EntryAt (s : List ℕ) (i : ℕ) (r : Result ℕ Reason) : Type 0 where
  pub says : (k : ℕ → Turn) → entered (lines_in s) i k ≡ followed r k
