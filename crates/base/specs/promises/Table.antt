-- The work table: eight columns of 2,048 rows in one list of words, column by column.
use Rattle.std.specs.Prelude.{◌≡◌, ℕ, ◌+◌, ◌*◌, ◌<◌, ◌≢◌, List, length, slice_index, slice_set}
use Rattle.std.proofs.Math.Decide.{dec_lt}
use Rattle.std.proofs.Common.{arith, length-set, get_or-set_same}
use Rattle.std.proofs.Math.Seq.{get_or-set_other, set_comm}

abbrev pub rows : ℕ
rows = 2048

abbrev pub size : ℕ
size = 16384

-- The place of column k of row i.
abbrev pub cell : ℕ → ℕ → ℕ
cell k i = rows * k + i

-- The columns, by what the row is of. Of a token: its kind, its position, the number of its name or the value of its literal.
abbrev pub c_kind : ℕ
c_kind = 0

abbrev pub c_start : ℕ
c_start = 1

abbrev pub c_number : ℕ
c_number = 2

-- Of a node: the position where it begins, its parts, the next member of its list.
abbrev pub c_begin : ℕ
c_begin = 3

abbrev pub c_first : ℕ
c_first = 4

abbrev pub c_second : ℕ
c_second = 5

abbrev pub c_next : ℕ
c_next = 6

abbrev pub c_third : ℕ
c_third = 7

-- Of a variable or method its type; of a class its parent's name; the first of the parameters, locals, fields and methods.
abbrev pub c_type : ℕ
c_type = 3

abbrev pub c_parent : ℕ
c_parent = 3

abbrev pub c_parameters : ℕ
c_parameters = 4

abbrev pub c_locals : ℕ
c_locals = 5

abbrev pub c_fields : ℕ
c_fields = 4

abbrev pub c_methods : ℕ
c_methods = 5

-- Of the parenthesis after a method's name: its first statement and its return expression.
abbrev pub c_body : ℕ
c_body = 4

abbrev pub c_value : ℕ
c_value = 5

-- Of the number of a name: the class of that name.
abbrev pub c_class : ℕ
c_class = 7

-- While the lexer fills the table: the first row of a bucket, and of a name's row the next in its bucket and the length of its text.
abbrev pub c_head : ℕ
c_head = 5

abbrev pub c_link : ℕ
c_link = 6

abbrev pub c_length : ℕ
c_length = 7

-- What stands there. Not an `abbrev`, and `put` neither, so that no proof unfolds a list of 16,384 words.
unfoldable pub col : List ℕ → ℕ → ℕ → ℕ
col tab k i = slice_index tab (cell k i)

-- The table with v written there.
unfoldable pub put : List ℕ → ℕ → ℕ → ℕ → List ℕ
put tab k i v = slice_set tab (cell k i) v

-- Two cells of different columns or of different rows are different.
pub cell_apart : (k i l j : ℕ) → i < rows → j < rows → (k ≡ l → i ≢ j) → cell k i ≢ cell l j
cell_apart k i l j hi hj n e =
    elim (dec_lt k l) [ yes lt ↦ omega arith | no ge ↦ elim (dec_lt l k) [ yes lt ↦ omega arith | no le ↦ n (omega arith) (omega arith) ] ]

pub length-put : (tab : List ℕ) (k i v : ℕ) → length (put tab k i v) ≡ length tab
unfolding put
length-put tab k i v = length-set tab (cell k i) v

pub col-put-same : (tab : List ℕ) (k i v : ℕ) → cell k i < length tab → col (put tab k i v) k i ≡ v
unfolding col put
col-put-same tab k i v h = get_or-set_same tab (cell k i) v 0 h

-- Two cells that are apart: a put to one leaves the other, and puts to both commute.
module _ (tab : List ℕ) (k i l j : ℕ) (hi : i < rows) (hj : j < rows) (n : k ≡ l → i ≢ j) where
  pub col-put-other : (v : ℕ) → col (put tab l j v) k i ≡ col tab k i
  unfolding col put
  col-put-other v = get_or-set_other tab (cell l j) (cell k i) v 0 (cell_apart k i l j hi hj n)

  pub put-comm : (v w : ℕ) → put (put tab k i v) l j w ≡ put (put tab l j w) k i v
  unfolding put
  put-comm v w = set_comm tab (cell k i) (cell l j) v w (cell_apart k i l j hi hj n)

-- Two tables have the same column k.
abbrev pub SameColumn : ℕ → List ℕ → List ℕ → Type 0
SameColumn k tab tab' = (i : ℕ) → i < rows → col tab' k i ≡ col tab k i

-- A put leaves every column but its own.
pub put-columns : (tab : List ℕ) (k l j v : ℕ) → k ≢ l → j < rows → SameColumn k tab (put tab l j v)
put-columns tab k l j v n hj i hi = col-put-other tab k i l j hi hj (λ e _. n e) v
