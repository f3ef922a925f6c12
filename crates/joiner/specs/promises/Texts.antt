-- The text that is written, as the work table tells it: the library's tokens and classes are in the table, the lesson's names are listed
-- by their positions in an array.
use Rattle.std.specs.Prelude.{ℕ, zero, suc, ◌+◌, ◌-◌, min, List, [], ◌∷◌, ◌++◌, ◌≡◌, length, set, ltb}
use Rattle.base.specs.Choice.{if◌then◌otherwise◌}
use Rattle.base.specs.promises.Table.{col, c_start, c_next}
use Rattle.lexer.specs.Bytes.{b_line_feed}
use Rattle.parser.specs.promises.Layout.{absent}
use Rattle.joining.specs.Join.{slice}
use Rattle.joiner.specs.promises.Names.{taken_within_lem}

-- the position behind the class that stands before that of row `next`: a closing brace is one byte, and stands two tokens before that
-- row's name, or is the last of n tokens
unfoldable pub end_before_lem : (tab : List ℕ) → (n next : ℕ) → ℕ
end_before_lem tab n next = if ltb next absent then (λ _. col tab c_start (next - 2) + 1) otherwise λ _. col tab c_start (n - 1) + 1

-- the bytes of the kept ones of at most so many classes from a row on: `count` names are taken, and the library has n tokens
unfoldable pub kept_from : (lesson array : List ℕ) → (count : ℕ) → (library tab : List ℕ) → (n row left : ℕ) → List ℕ
kept_from s a m lib tab n row zero = []
kept_from s a m lib tab n row (suc k) =
    if ltb row absent
    then (λ _.
    if taken_within_lem s a 0 m lib (col tab c_start row) then (λ _. kept_from s a m lib tab n (col tab c_next row) k) otherwise λ _.
    slice (col tab c_start (row - 1)) (end_before_lem tab n (col tab c_next row)) lib
    ++ b_line_feed ∷ kept_from s a m lib tab n (col tab c_next row) k)
    otherwise λ _. []

-- how many of `size` bytes lie from one position up to another
abbrev pub part_size_lem : (size from end : ℕ) → ℕ
part_size_lem size from end = min end size - from

-- no class takes more bytes, with the line feed behind it
abbrev pub class_room : ℕ
class_room = 4294967297

-- a strip with bytes written from a place on, one after the other
unfoldable pub overlay : (strip : List ℕ) → (place : ℕ) → List ℕ → List ℕ
overlay strip place [] = strip
overlay strip place (x ∷ xs) = overlay (set strip place x) (place + 1) xs

-- just these bytes were written
pub record Overlaid (before : List ℕ) (place : ℕ) (xs after : List ℕ) : Type 0 where
  pub is : after ≡ overlay before place xs

-- a class and a line feed were written, up to the place r
pub record ClassWritten (library tab : List ℕ) (n row next place : ℕ) (before : List ℕ) (r : ℕ) (after : List ℕ) : Type 0 where
  pub is : after ≡ overlay before place (slice (col tab c_start (row - 1)) (end_before_lem tab n next) library ++ b_line_feed ∷ [])
  pub behind : r ≡ place + (part_size_lem (length library) (col tab c_start (row - 1)) (end_before_lem tab n next) + 1)
