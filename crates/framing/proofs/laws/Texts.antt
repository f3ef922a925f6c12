-- A text that was written reads back, each code as its low 8 bits and each operand as its low 32.
use Prim.Native.Nat.{ℕ, zero, suc, ◌+◌, ◌-◌, ◌*◌, ◌/◌, ◌%◌, ◌^◌, ◌≤◌, ◌<◌}
use native.Mathlib.Omega.{arith}
use Rattle.std.specs.Prelude.{Bool, true, false, ◌&&◌, List, [], ◌∷◌, map, ◌≡◌, refl, length, ltb, leb, eqb}
use Rattle.std.proofs.Math.Option.{Option, none, some}
use Rattle.std.proofs.Common.{sym, ap₂, ◌∙◌, ltb-true, ltb-false, le-leb}
use Rattle.std.proofs.Math.Path.{ap}
use Rattle.std.proofs.lemmas.Bool.{lt-leb}
use Rattle.base.specs.Choice.{if◌then◌otherwise◌, option}
use Rattle.base.specs.Outcome.{Outcome, accepted, refused, ◌>>=◌}
use Rattle.base.specs.Codes.{other_form}
use Rattle.frames.specs.Numbers.{line_bytes}
use Rattle.frames.specs.Lines.{Line, line, digit_of, digit, digits, line_feed_lem, single_line, no_more, lines_from, lines, in_hex, text}
use Rattle.framing.proofs.laws.Taking.{reduced}

digit-read : (n : ℕ) → n < 16 → digit_of (digit n) ≡ some n
digit-read n h = by (ltb n 10) refl
  where
    at : ℕ → Option ℕ
    at b = if leb 48 b && leb b 57 then (λ _. some (b - 48)) otherwise λ _. if leb 97 b && leb b 102 then (λ _. some (b - 87)) otherwise λ _. none

    pick : (x y : Bool) (b c : ℕ) → (x && y) ≡ true → (if x && y then (λ _. some b) otherwise λ _. if leb 97 c && leb c 102 then (λ _. some (c - 87)) otherwise λ _. none) ≡ some b
    pick true true b c e = refl
    pick true false b c e = absurd (let z : ◌≡◌ {A = ℕ} 0 1 = cc in omega arith)
    pick false y b c e = absurd (let z : ◌≡◌ {A = ℕ} 0 1 = cc in omega arith)

    second : (w x y z : Bool) (a b : ℕ) → x ≡ false → (y && z) ≡ true → (if w && x then (λ _. some a) otherwise λ _. if y && z then (λ _. some b) otherwise λ _. none) ≡ some b
    second true false true true a b e f = refl
    second false false true true a b e f = refl
    second w true y z a b e f = absurd (let z : ◌≡◌ {A = ℕ} 0 1 = cc in omega arith)
    second true false true false a b e f = absurd (let z : ◌≡◌ {A = ℕ} 0 1 = cc in omega arith)
    second true false false z a b e f = absurd (let z : ◌≡◌ {A = ℕ} 0 1 = cc in omega arith)
    second false false true false a b e f = absurd (let z : ◌≡◌ {A = ℕ} 0 1 = cc in omega arith)
    second false false false z a b e f = absurd (let z : ◌≡◌ {A = ℕ} 0 1 = cc in omega arith)

    by : (b : Bool) → ltb n 10 ≡ b → at (if b then (λ _. 48 + n) otherwise λ _. 87 + n) ≡ some n
    by true e =
        let l : n < 10 = ltb-true n 10 e in
        let z : 48 + n - 48 ≡ n = omega arith in
        pick (leb 48 (48 + n)) (leb (48 + n) 57) (48 + n - 48) (48 + n) (ap₂ ◌&&◌ (le-leb 48 (48 + n) (omega arith)) (le-leb (48 + n) 57 (omega arith))) ∙ ap some z
    by false e =
        let l : 10 ≤ n = ltb-false n 10 e in
        let z : 87 + n - 87 ≡ n = omega arith in
        second (leb 48 (87 + n)) (leb (87 + n) 57) (leb 97 (87 + n)) (leb (87 + n) 102) (87 + n - 48) (87 + n - 87) (lt-leb (87 + n) 57 (omega arith))
        (ap₂ ◌&&◌ (le-leb 97 (87 + n) (omega arith)) (le-leb (87 + n) 102 (omega arith))) ∙ ap some z

-- the number that so many low digits say
unfoldable pub low_digits : ℕ → ℕ → ℕ
low_digits zero n = 0
low_digits (suc k) n = low_digits k (n / 16) * 16 + n % 16

module _ {B : Type 0} where
  pub digits_in : (k j n : ℕ) (rest : List ℕ) (other : B) (K : ℕ → List ℕ → B)
      → digits (k + j) 0 (in_hex k n rest) other K ≡ digits j (low_digits k n) rest other K
  unfolding digits in_hex low_digits
  digits_in zero j n rest other K = let z : 0 + j ≡ j = omega arith in ap (λ (i : ℕ). digits i 0 rest other K) z
  digits_in (suc k) j n rest other K =
      let z : suc k + j ≡ k + suc j = omega arith in
      ap (λ (i : ℕ). digits i 0 (in_hex k (n / 16) (digit (n % 16) ∷ rest)) other K) z
      ∙ digits_in k (suc j) (n / 16) (digit (n % 16) ∷ rest) other K
      ∙ ap (λ (o : Option ℕ). option o other λ d. digits j (low_digits k (n / 16) * 16 + d) rest other K) (digit-read (n % 16) (omega arith))

low-suc : (k n : ℕ) → low_digits (suc k) n ≡ low_digits k (n / 16) * 16 + n % 16
unfolding low_digits
low-suc k n = refl

one-digit : (n : ℕ) → low_digits 1 n ≡ n % 16
unfolding low_digits
one-digit n = omega arith

two_digits : (n : ℕ) → low_digits 2 n ≡ n % 256
two_digits n = let l = low-suc 1 n in let m = one-digit (n / 16) in omega arith

three-digits : (n : ℕ) → low_digits 3 n ≡ n % 4096
three-digits n = let l = low-suc 2 n in let m = two_digits (n / 16) in omega arith

four-digits : (n : ℕ) → low_digits 4 n ≡ n % 65536
four-digits n = let l = low-suc 3 n in let m = three-digits (n / 16) in omega arith

five-digits : (n : ℕ) → low_digits 5 n ≡ n % 1048576
five-digits n = let l = low-suc 4 n in let m = four-digits (n / 16) in omega arith

six-digits : (n : ℕ) → low_digits 6 n ≡ n % 16777216
six-digits n = let l = low-suc 5 n in let m = five-digits (n / 16) in omega arith

seven-digits : (n : ℕ) → low_digits 7 n ≡ n % 268435456
seven-digits n = let l = low-suc 6 n in let m = six-digits (n / 16) in omega arith

eight-digits : (n : ℕ) → low_digits 8 n ≡ n % 4294967296
eight-digits n = let l = low-suc 7 n in let m = seven-digits (n / 16) in omega arith

one_line : {B : Type 0} (x : Line) (rest : List ℕ) (other : B) (K : Line → List ℕ → B)
    → single_line (in_hex 2 x.code (in_hex 8 x.operand (10 ∷ rest))) other K ≡ K (reduced x) rest
unfolding digits
one_line x rest other K =
    digits_in 2 0 x.code (in_hex 8 x.operand (10 ∷ rest)) other _
    ∙ digits_in 8 0 x.operand (10 ∷ rest) other _
    ∙ ap₂ (λ (c y : ℕ). K (line c y) rest) (two_digits x.code) (eight-digits x.operand)

in-hex-length : (k n : ℕ) (rest : List ℕ) → length (in_hex k n rest) ≡ k + length rest
unfolding in_hex
in-hex-length zero n rest = omega arith
in-hex-length (suc k) n rest = omega (arith, in-hex-length k (n / 16) (digit (n % 16) ∷ rest))

text-long : (xs : List Line) → length xs ≤ length (text xs)
unfolding text
text-long [] = omega arith
text-long (x ∷ xs) =
    omega (arith, in-hex-length 2 x.code (in_hex 8 x.operand (10 ∷ text xs)), in-hex-length 8 x.operand (10 ∷ text xs), text-long xs)

more-there : (n : ℕ) (rest : List ℕ) → no_more (in_hex 2 n rest) ≡ false
unfolding in_hex
more-there n rest = refl

read-lines : (xs : List Line) (f i : ℕ) → length xs ≤ f → lines_from f i (text xs) ≡ accepted (map reduced xs)
unfolding lines_from text
read-lines [] zero i h = refl
read-lines [] (suc f) i h = refl
read-lines (x ∷ xs) zero i h = absurd (omega arith)
read-lines (x ∷ xs) (suc f) i h =
    ap (λ (b : Bool). if b then (λ _. accepted []) otherwise λ _. single_line (text (x ∷ xs)) (refused other_form i) λ y s. lines_from f (i + line_bytes) s >>= λ ys. accepted (y ∷ ys))
    (more-there x.code (in_hex 8 x.operand (10 ∷ text xs)))
    ∙ one_line x (text xs) (refused other_form i) (λ y s. lines_from f (i + line_bytes) s >>= λ ys. accepted (y ∷ ys))
    ∙ ap (λ (o : Outcome (List Line)). o >>= λ ys. accepted (reduced x ∷ ys)) (read-lines xs f (i + line_bytes) (omega arith))

pub read_back : (xs : List Line) → lines (text xs) ≡ accepted (map reduced xs)
unfolding lines
read_back xs = read-lines xs (length (text xs)) 0 (text-long xs)
