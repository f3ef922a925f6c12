-- Document 02, (iv): the kind of a byte, from the tests of bytes and marks. It is written as the byte that stands for it in the table of
-- the code. The definition of the tokens does not speak of it.
use Rattle.std.specs.Prelude.{ℕ, ◌+◌, List, [], ◌∷◌, Bool, true, ◌&&◌, ◌||◌, not, ◌≡◌, eqb}
use Rattle.base.specs.Choice.{if◌then◌otherwise◌}
use Rattle.lexer.specs.Bytes.{b_ampersand, is_blank, is_letter, is_digit_lem}
use Rattle.lexer.specs.Kinds.{k_end, mark_kind_lem}

-- `L`
abbrev pub b_letter : ℕ
b_letter = 76

-- `D`
abbrev pub b_digit : ℕ
b_digit = 68

-- `B`
abbrev pub b_blank : ℕ
b_blank = 66

-- `M`
abbrev pub b_mark : ℕ
b_mark = 77

-- `.`
abbrev pub b_other : ℕ
b_other = 46

-- one of document 01's "other tokens" begins with it: `&&`, or a token of one byte
unfoldable pub is_mark : ℕ → Bool
is_mark b = eqb b b_ampersand || not (eqb (mark_kind_lem b) k_end)

unfoldable pub byte_kind : ℕ → ℕ
byte_kind b =
    if is_letter b then (λ _. b_letter) otherwise λ _.
    if is_digit_lem b then (λ _. b_digit) otherwise λ _.
    if is_blank b then (λ _. b_blank) otherwise λ _.
    if is_mark b then (λ _. b_mark) otherwise λ _.
    b_other

-- the test of a table: the entries from byte i on are those of the rule, and the last is that of byte 255
abbrev pub agrees : (i : ℕ) → List ℕ → Bool
agrees i [] = eqb i 256
agrees i (x ∷ xs) = eqb x (byte_kind i) && agrees (i + 1) xs

pub record RightTable (table : List ℕ) : Type 0 where
  pub test : agrees 0 table ≡ true
