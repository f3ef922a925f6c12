-- Laws on what begins at a position: a run is the front of what it is taken from, each item ends past its beginning and within the bytes,
-- and a literal has digits only, or, of fixed, digits, a point and digits.
use Rattle.std.specs.Prelude.{ℕ, suc, ◌+◌, ◌-◌, ◌≤◌, ◌<◌, ◌≢◌, Bool, true, false, ◌&&◌, ◌||◌, not, ◌≡◌, get_or, ltb}
use Rattle.std.proofs.Common.{arith, true≢false, sym, ◌∙◌, subst, drop-cons, ltb-true, eqb-true, ne_eqb}
use mathlib.Core.List.{List, [], ◌∷◌, ◌++◌}
use Rattle.std.proofs.lemmas.Bool.{false≢true, eqb-false, not-true}
use Rattle.std.proofs.Math.Option.{Option, none, some}
use Rattle.std.proofs.Math.Path.{refl, ap}
use Rattle.std.proofs.Math.ListN.{length, take, drop, length-append, length-drop}
use Rattle.std.proofs.Math.Dec.{eqb, lit<}
use Rattle.std.proofs.Math.Seq.{drop-append-add, take-add}
use Rattle.base.specs.Bytes.{same}
use Rattle.base.specs.Choice.{if◌then◌otherwise◌}
use Rattle.base.specs.All.{All, all_nil, all_cons}
use Rattle.base.specs.laws.Tests.{apart, and-true, and-false, or-neither, if-both}
use Rattle.lexer.specs.Bytes.{b_line_feed, b_underscore, b_slash, b_ampersand, b_less, b_plus, b_minus, b_star, b_exclamation, b_equals, b_dot}
use Rattle.lexer.specs.Bytes.{b_comma, b_semicolon, b_open, b_close, b_open_bracket, b_close_bracket, b_open_brace, b_close_brace}
use Rattle.lexer.specs.Bytes.{is_blank, is_letter, is_digit_lem, is_name_part_lem}
use Rattle.lexer.specs.Kinds.{Word, words, k_literal, k_fixed_literal, k_and, is_name_lem, kind_in, word_kind_lem, mark_kind_lem, k_end, k_less, k_plus}
use Rattle.lexer.specs.Kinds.{k_minus, k_times, k_not, k_assign, k_dot, k_comma, k_semicolon, k_open, k_close, k_open_bracket, k_close_bracket}
use Rattle.lexer.specs.Kinds.{k_open_brace, k_close_brace}
use Rattle.lexer.specs.Tokens.{Item, gap, unclosed, nothing, token, longest_run, begins, closing, comment, mark, numeral, item}
use Rattle.lexer.specs.Tokens.{whole_digits, fraction_digits}

-- ---- two bytes

-- the second byte is 0 where there is none
pub begins-cons : (x y b : ℕ) (r : List ℕ) → eqb y 0 ≡ false → begins x y (b ∷ r) ≡ eqb x b && eqb y (get_or r 0 0)
begins-cons x y b [] e = rw e (sym (and-false (eqb x b)))
begins-cons x y b (c ∷ r) e = refl

-- the bytes that begin with x and y
pub record Two (x y b : ℕ) (r : List ℕ) : Type 0 where
  pub first : b ≡ x
  pub rest : List ℕ
  pub second : r ≡ y ∷ rest

two : (x y b : ℕ) (r : List ℕ) → begins x y (b ∷ r) ≡ true → Two x y b r
two x y b [] e = apart (cc)
two x y b (c ∷ r) e =
    let q = and-true (eqb x b) (eqb y c) e in
    record { first = sym (eqb-true x b q.0); rest = r; second = ap (λ (d : ℕ). d ∷ r) (sym (eqb-true y c q.1)) }

-- ---- runs

pub run-front : (p : ℕ → Bool) (l : List ℕ) → take (length (longest_run p l)) l ≡ longest_run p l
unfolding longest_run
run-front p [] = refl
run-front p (b ∷ l) = go (p b) (run-front p l)
  where
    go : (c : Bool) → take (length (longest_run p l)) l ≡ longest_run p l
        → take (length (if c then (λ _. b ∷ longest_run p l) otherwise λ _. [])) (b ∷ l) ≡ (if c then (λ _. b ∷ longest_run p l) otherwise λ _. [])
    go true e = ap (λ (r : List ℕ). b ∷ r) e
    go false e = refl

pub run_short : (p : ℕ → Bool) (l : List ℕ) → length (longest_run p l) ≤ length l
unfolding longest_run
run_short p [] = omega arith
run_short p (b ∷ l) = go (p b) (run_short p l)
  where
    go : (c : Bool) → length (longest_run p l) ≤ length l → length (if c then (λ _. b ∷ longest_run p l) otherwise λ _. []) ≤ suc (length l)
    go true h = omega arith
    go false h = omega arith

-- each byte of it passes the test
pub run-all : (p : ℕ → Bool) (l : List ℕ) → All (λ b. p b ≡ true) (longest_run p l)
unfolding longest_run
run-all p [] = all_nil
run-all p (b ∷ l) = go (p b) refl (run-all p l)
  where
    go : (c : Bool) → p b ≡ c → All (λ d. p d ≡ true) (longest_run p l)
        → All (λ d. p d ≡ true) (if c then (λ _. b ∷ longest_run p l) otherwise λ _. [])
    go true e h = all_cons e h
    go false e h = all_nil

run-some : (p : ℕ → Bool) (b : ℕ) (l : List ℕ) → p b ≡ true → 0 < length (longest_run p (b ∷ l))
unfolding longest_run
run-some p b l e = rw e (omega arith)

-- it ends before a byte that does not pass
pub run-stop : (p : ℕ → Bool) (l : List ℕ) (b : ℕ) (r : List ℕ) → All (λ c. p c ≡ true) l → p b ≡ false → longest_run p (l ++ b ∷ r) ≡ l
unfolding longest_run
run-stop p [] b r all_nil n = rw n refl
run-stop p (c ∷ l) b r (all_cons e h) n = rw e (ap (λ (m : List ℕ). c ∷ m) (run-stop p l b r h n))

-- ---- the kinds of words and marks

-- a test tells two kinds apart
pub kinds-apart : (test : ℕ → Bool) (k q : ℕ) → test k ≡ true → test q ≡ false → eqb k q ≡ false
kinds-apart test k q e n = ne_eqb k q λ z. absurd (true≢false (sym e ∙ ap test z ∙ n))

-- every kind is below this number
abbrev pub kinds_end : ℕ
kinds_end = 45

-- a kind of a word or a mark, which is no literal's; 0 is the kind of no mark
abbrev fits_kind : ℕ → Bool
fits_kind k = ltb k kinds_end && not (eqb k k_literal || eqb k k_fixed_literal)

abbrev kinds_fit : List Word → Bool
kinds_fit [] = true
kinds_fit (w ∷ ws) = (ltb 0 w.kind && fits_kind w.kind) && kinds_fit ws

word_fits : (ws : List Word) (t : List ℕ) → kinds_fit ws ≡ true → (ltb 0 (kind_in ws t) && fits_kind (kind_in ws t)) ≡ true
word_fits [] t e = refl
word_fits (w ∷ ws) t e =
    let q = and-true (ltb 0 w.kind && fits_kind w.kind) (kinds_fit ws) e in
    if-both (λ k. (ltb 0 k && fits_kind k) ≡ true) (same w.text t) (λ _. w.kind) (λ _. kind_in ws t) q.0 (word_fits ws t q.1)

-- the same as facts
abbrev KindFits : ℕ → Type 0
KindFits k = (k < kinds_end) × (k ≢ k_literal) × (k ≢ k_fixed_literal)

kind_fits : (k : ℕ) → fits_kind k ≡ true → KindFits k
kind_fits k e =
    let q = and-true (ltb k kinds_end) (not (eqb k k_literal || eqb k k_fixed_literal)) e in
    let n = or-neither (eqb k k_literal) (eqb k k_fixed_literal) (not-true (eqb k k_literal || eqb k k_fixed_literal) q.1) in
    (ltb-true k kinds_end q.0, eqb-false k k_literal n.0, eqb-false k k_fixed_literal n.1)

pub word-kind-fits : (t : List ℕ) → (0 < word_kind_lem t) × KindFits (word_kind_lem t)
unfolding word_kind_lem words
word-kind-fits t =
    let q = and-true (ltb 0 (word_kind_lem t)) (fits_kind (word_kind_lem t)) (word_fits words t refl) in
    (ltb-true 0 (word_kind_lem t) q.0, kind_fits (word_kind_lem t) q.1)

-- what holds of the kind of each mark and of `k_end` holds of every mark's
of-marks : (P : ℕ → Type 0) → P k_less → P k_plus → P k_minus → P k_times → P k_not → P k_assign → P k_dot → P k_comma → P k_semicolon → P k_open → P
    k_close
    → P k_open_bracket → P k_close_bracket → P k_open_brace → P k_close_brace → P k_end → (b : ℕ) → P (mark_kind_lem b)
unfolding mark_kind_lem
of-marks P m₁ m₂ m₃ m₄ m₅ m₆ m₇ m₈ m₉ m₁₀ m₁₁ m₁₂ m₁₃ m₁₄ m₁₅ m₀ b =
    if-both P (eqb b b_less) (λ _. k_less) _ m₁
    (if-both P (eqb b b_plus) (λ _. k_plus) _ m₂
    (if-both P (eqb b b_minus) (λ _. k_minus) _ m₃
    (if-both P (eqb b b_star) (λ _. k_times) _ m₄
    (if-both P (eqb b b_exclamation) (λ _. k_not) _ m₅
    (if-both P (eqb b b_equals) (λ _. k_assign) _ m₆
    (if-both P (eqb b b_dot) (λ _. k_dot) _ m₇
    (if-both P (eqb b b_comma) (λ _. k_comma) _ m₈
    (if-both P (eqb b b_semicolon) (λ _. k_semicolon) _ m₉
    (if-both P (eqb b b_open) (λ _. k_open) _ m₁₀
    (if-both P (eqb b b_close) (λ _. k_close) _ m₁₁
    (if-both P (eqb b b_open_bracket) (λ _. k_open_bracket) _ m₁₂
    (if-both P (eqb b b_close_bracket) (λ _. k_close_bracket) _ m₁₃
    (if-both P (eqb b b_open_brace) (λ _. k_open_brace) _ m₁₄
    (if-both P (eqb b b_close_brace) (λ _. k_close_brace) _ m₁₅ m₀))))))))))))))

mark-kind-fits : (b : ℕ) → fits_kind (mark_kind_lem b) ≡ true
mark-kind-fits b = of-marks (λ k. fits_kind k ≡ true) refl refl refl refl refl refl refl refl refl refl refl refl refl refl refl refl b

pub mark-no-name : (b : ℕ) → is_name_lem (mark_kind_lem b) ≡ false
unfolding is_name_lem
mark-no-name b = of-marks (λ k. is_name_lem k ≡ false) refl refl refl refl refl refl refl refl refl refl refl refl refl refl refl refl b

-- ---- the end of a block comment

abbrev Ends : (i n : ℕ) → Option ℕ → Type 0
Ends i n none = Unit {0}
Ends i n (some j) = (i < j) × (j ≤ i + n)

ends-later : (i j n m : ℕ) (o : Option ℕ) → i ≤ j → j + n ≤ i + m → Ends j n o → Ends i m o
ends-later i j n m none h k e = tt
ends-later i j n m (some l) h k e = omega arith

closing-ends : (d i : ℕ) (bs : List ℕ) → Ends i (length bs) (closing d i bs)
unfolding closing
closing-ends d i [] = tt
closing-ends d i (a ∷ []) = tt
closing-ends d i (a ∷ b ∷ bs) =
    let n = length bs in
    let P : Option ℕ → Type 0 = Ends i (suc (suc n)) in
    if-both P (eqb a b_slash && eqb b b_star) (λ _. closing (d + 1) (i + 2) bs) _
    (ends-later i (i + 2) n (suc (suc n)) (closing (d + 1) (i + 2) bs) (omega arith) (omega arith) (closing-ends (d + 1) (i + 2) bs))
    (if-both P (eqb a b_star && eqb b b_slash) _ (λ _. closing d (i + 1) (b ∷ bs))
    (if-both P (eqb d 1) (λ _. some (i + 2)) (λ _. closing (d - 1) (i + 2) bs) (omega arith)
    (ends-later i (i + 2) n (suc (suc n)) (closing (d - 1) (i + 2) bs) (omega arith) (omega arith) (closing-ends (d - 1) (i + 2) bs)))
    (ends-later i (i + 1) (suc n) (suc (suc n)) (closing d (i + 1) (b ∷ bs)) (omega arith) (omega arith) (closing-ends d (i + 1) (b ∷ bs))))

-- ---- literals

-- every byte is a digit
abbrev pub Digits : List ℕ → Type 0
Digits t = All (λ b. is_digit_lem b ≡ true) t

-- digits, a point, digits
pub record Pointed (text : List ℕ) : Type 0 where
  pub some-whole : 0 < length (whole_digits text)
  pub whole : Digits (whole_digits text)
  pub fraction : Digits (fraction_digits text)
  pub is : text ≡ whole_digits text ++ b_dot ∷ fraction_digits text

pub with-point : (w f : List ℕ) → 0 < length w → Digits w → Digits f → Pointed (w ++ b_dot ∷ f)
unfolding is_digit_lem
with-point w f l dw df =
    let whole : whole_digits (w ++ b_dot ∷ f) ≡ w = run-stop is_digit_lem w b_dot f dw refl in
    let fraction : fraction_digits (w ++ b_dot ∷ f) ≡ f =
    ap (λ (v : List ℕ). drop (length v + 1) (w ++ b_dot ∷ f)) whole ∙ drop-append-add w (b_dot ∷ f) 1 in
    record {
      some-whole = subst (λ (v : List ℕ). 0 < length v) (sym whole) l;
      whole = subst Digits (sym whole) dw;
      fraction = subst Digits (sym fraction) df;
      is = λ j. sym whole j ++ b_dot ∷ sym fraction j;
    }

-- the point that bytes begin with, and what is behind it
behind-point : (l : List ℕ) → get_or l 0 0 ≡ b_dot → l ≡ b_dot ∷ drop 1 l
behind-point [] e = absurd (omega arith)
behind-point (c ∷ l) e = ap (λ (d : ℕ). d ∷ l) e

-- ---- items

-- what kind and text have to do with each other
pub data TokenForm : (kind : ℕ) → (text : List ℕ) → Type 0 where
  a_word : {k : ℕ} {t : List ℕ} → is_letter (get_or t 0 0) ≡ true → word_kind_lem t ≡ k → TokenForm k t
  a-literal : {t : List ℕ} → TokenForm k_literal t
  a-fixed-literal : {t : List ℕ} → TokenForm k_fixed_literal t
  an-and : TokenForm k_and (b_ampersand ∷ b_ampersand ∷ [])
  a-mark : {k b : ℕ} → mark_kind_lem b ≡ k → TokenForm k (b ∷ [])

-- a token's kind and its text, which the bytes begin with
pub record Shape (kind : ℕ) (text bs : List ℕ) : Type 0 where
  pub positive : 0 < kind
  pub below : kind < kinds_end
  pub nonempty : 0 < length text
  pub short : length text ≤ length bs
  pub front : take (length text) bs ≡ text
  pub digits : kind ≡ k_literal → Digits text
  pub pointed : kind ≡ k_fixed_literal → Pointed text
  pub named : is_name_lem kind ≡ true → text ≡ longest_run is_name_part_lem bs
  pub form : TokenForm kind text

-- an item that begins at i, with the bytes bs
abbrev pub Good : (i : ℕ) → List ℕ → Item → Type 0
Good i bs (gap j) = (i < j) × (j ≤ i + length bs)
Good i bs unclosed = Unit {0}
Good i bs nothing = Unit {0}
Good i bs (token k t) = Shape k t bs

-- the item by the answers of the tests
abbrev pub chosen : (i b : ℕ) (r : List ℕ) (blank line block letter digit and : Bool) → Item
chosen i b r blank line block letter digit and =
    let bs = b ∷ r in
    if blank then (λ _. gap (i + 1)) otherwise λ _.
    if line then (λ _. gap (i + length (longest_run (λ c. not (eqb c b_line_feed)) bs))) otherwise λ _.
    if block then (λ _. comment (closing 1 (i + 2) (drop 2 bs))) otherwise λ _.
    if letter then (λ _. let text = longest_run is_name_part_lem bs in token (word_kind_lem text) text) otherwise λ _.
    if digit then (λ _. numeral bs) otherwise λ _.
    if and then (λ _. token k_and (b_ampersand ∷ b_ampersand ∷ [])) otherwise λ _.
    mark b (mark_kind_lem b)

module _ (i b : ℕ) (r : List ℕ) where
  good-line : Two b_slash b_slash b r → Good i (b ∷ r) (gap (i + length (longest_run (λ c. not (eqb c b_line_feed)) (b ∷ r))))
  good-line w =
      let p : ℕ → Bool = λ c. not (eqb c b_line_feed) in
      omega (arith, run_short p (b ∷ r), run-some p b r (ap p w.first))

  good-comment : (o : Option ℕ) → Ends (i + 2) (length (drop 1 r)) o → Two b_slash b_star b r → Good i (b ∷ r) (comment o)
  good-comment none e w = tt
  good-comment (some j) e w = omega (arith, length-drop 1 r, ap length w.second)

  good-run : (p : ℕ → Bool) (k : ℕ) → 0 < k → k < kinds_end → (k ≡ k_literal → Digits (longest_run p (b ∷ r))) → k ≢ k_fixed_literal
      → (is_name_lem k ≡ true → longest_run p (b ∷ r) ≡ longest_run is_name_part_lem (b ∷ r)) → TokenForm k (longest_run p (b ∷ r))
      → p b ≡ true → Good i (b ∷ r) (token k (longest_run p (b ∷ r)))
  good-run p k l h d f n m e = record {
    positive = l;
    below = h;
    nonempty = run-some p b r e;
    short = run_short p (b ∷ r);
    front = run-front p (b ∷ r);
    digits = d;
    pointed = λ q. absurd (f q);
    named = n;
    form = m;
  }

  -- the first byte of a word
  first-letter : is_letter b ≡ true → is_letter (get_or (longest_run is_name_part_lem (b ∷ r)) 0 0) ≡ true
  unfolding longest_run is_name_part_lem
  first-letter e = rw (e, e) refl

  good-word : is_letter b ≡ true → Good i (b ∷ r) (token (word_kind_lem (longest_run is_name_part_lem (b ∷ r))) (longest_run is_name_part_lem (b ∷ r)))
  unfolding is_name_part_lem
  good-word e =
      let t = longest_run is_name_part_lem (b ∷ r) in
      let f = word-kind-fits t in
      good-run is_name_part_lem (word_kind_lem t) f.0 f.1.0 (λ q. absurd (f.1.1 q)) f.1.2 (λ _. refl) (a_word (first-letter e) refl)
      (ap (λ (x : Bool). x || is_digit_lem b || eqb b b_underscore) e)

  good-literal : is_digit_lem b ≡ true → Good i (b ∷ r) (token k_literal (longest_run is_digit_lem (b ∷ r)))
  unfolding is_name_lem
  good-literal e =
      good-run is_digit_lem k_literal (lit< tt) (lit< tt) (λ _. run-all is_digit_lem (b ∷ r)) (λ q. apart (cc)) (λ q. absurd (false≢true q)) a-literal
      e

  good-fixed : let rest = drop (length (longest_run is_digit_lem (b ∷ r))) (b ∷ r) in is_digit_lem b ≡ true → get_or rest 0 0 ≡ b_dot
      → Good i (b ∷ r) (token k_fixed_literal (longest_run is_digit_lem (b ∷ r) ++ b_dot ∷ longest_run is_digit_lem (drop 1 rest)))
  unfolding is_name_lem
  good-fixed e q =
      let bs = b ∷ r in
      let w = longest_run is_digit_lem bs in
      let rest = drop (length w) bs in
      let f = longest_run is_digit_lem (drop 1 rest) in
      let n = length-append w (b_dot ∷ f) in
      let z = behind-point rest q in
      let tail = ap (take (suc (length f))) z ∙ ap (λ (l : List ℕ). b_dot ∷ l) (run-front is_digit_lem (drop 1 rest)) in
      record {
        positive = lit< tt;
        below = lit< tt;
        nonempty = omega (arith, n);
        short =
            omega (arith, n, run_short is_digit_lem bs, run_short is_digit_lem (drop 1 rest), ap length z, length-drop (length w) bs);
        front =
            ap (λ (m : ℕ). take m bs) n
            ∙ take-add (length w) (suc (length f)) bs
            ∙ (λ j. run-front is_digit_lem bs j ++ tail j);
        digits = λ k. apart (cc);
        pointed = λ _. with-point w f (run-some is_digit_lem b r e) (run-all is_digit_lem bs) (run-all is_digit_lem (drop 1 rest));
        named = λ k. absurd (false≢true k);
        form = a-fixed-literal;
      }

  good-numeral : is_digit_lem b ≡ true → Good i (b ∷ r) (numeral (b ∷ r))
  good-numeral e = by (eqb (get_or rest 0 0) b_dot && is_digit_lem (get_or rest 1 0)) refl
    where
      rest : List ℕ
      rest = drop (length (longest_run is_digit_lem (b ∷ r))) (b ∷ r)

      by : (c : Bool) → (eqb (get_or rest 0 0) b_dot && is_digit_lem (get_or rest 1 0)) ≡ c
          → Good i (b ∷ r)
          (if c then (λ _. token k_fixed_literal (longest_run is_digit_lem (b ∷ r) ++ b_dot ∷ longest_run is_digit_lem (drop 1 rest)))
          otherwise λ _. token k_literal (longest_run is_digit_lem (b ∷ r)))
      by true q = good-fixed e (eqb-true (get_or rest 0 0) b_dot (and-true (eqb (get_or rest 0 0) b_dot) (is_digit_lem (get_or rest 1 0)) q).0)
      by false q = good-literal e

  good-and : Two b_ampersand b_ampersand b r → Good i (b ∷ r) (token k_and (b_ampersand ∷ b_ampersand ∷ []))
  unfolding is_name_lem
  good-and w = record {
    positive = lit< tt;
    below = lit< tt;
    nonempty = lit< tt;
    short = omega (arith, ap length w.second);
    front = (λ j. take 2 (w.first j ∷ w.second j));
    digits = λ q. apart (cc);
    pointed = λ q. apart (cc);
    named = λ q. absurd (false≢true q);
    form = an-and;
  }

  good-mark : (k : ℕ) → mark_kind_lem b ≡ k → KindFits k → is_name_lem k ≡ false → (z : Bool) → eqb k 0 ≡ z
      → Good i (b ∷ r) (if z then (λ _. nothing) otherwise λ _. token k (b ∷ []))
  good-mark k m h n true e = tt
  good-mark k m h n false e = record {
    positive = not-zero k (eqb-false k 0 e);
    below = h.0;
    nonempty = lit< tt;
    short = omega arith;
    front = refl;
    digits = λ q. absurd (h.1 q);
    pointed = λ q. absurd (h.2 q);
    named = λ q. absurd (false≢true (sym n ∙ q));
    form = a-mark m;
  }
    where
      not-zero : (n : ℕ) → n ≢ 0 → 0 < n
      not-zero n m = omega arith

  good-chosen : (x₁ x₂ x₃ x₄ x₅ x₆ : Bool) → begins b_slash b_slash (b ∷ r) ≡ x₂ → begins b_slash b_star (b ∷ r) ≡ x₃
      → is_letter b ≡ x₄ → is_digit_lem b ≡ x₅ → begins b_ampersand b_ampersand (b ∷ r) ≡ x₆ → Good i (b ∷ r) (chosen i b r x₁ x₂ x₃ x₄ x₅ x₆)
  good-chosen true x₂ x₃ x₄ x₅ x₆ e₂ e₃ e₄ e₅ e₆ = omega arith
  good-chosen false true x₃ x₄ x₅ x₆ e₂ e₃ e₄ e₅ e₆ = good-line (two b_slash b_slash b r e₂)
  good-chosen false false true x₄ x₅ x₆ e₂ e₃ e₄ e₅ e₆ =
      good-comment (closing 1 (i + 2) (drop 1 r)) (closing-ends 1 (i + 2) (drop 1 r)) (two b_slash b_star b r e₃)
  good-chosen false false false true x₅ x₆ e₂ e₃ e₄ e₅ e₆ =
      good-word e₄
  good-chosen false false false false true x₆ e₂ e₃ e₄ e₅ e₆ = good-numeral e₅
  good-chosen false false false false false true e₂ e₃ e₄ e₅ e₆ = good-and (two b_ampersand b_ampersand b r e₆)
  good-chosen false false false false false false e₂ e₃ e₄ e₅ e₆ =
      good-mark (mark_kind_lem b) refl (kind_fits (mark_kind_lem b) (mark-kind-fits b)) (mark-no-name b) (eqb (mark_kind_lem b) k_end) refl

good-item : (i b : ℕ) (r : List ℕ) → Good i (b ∷ r) (item i (b ∷ r))
unfolding item
good-item i b r =
    let bs = b ∷ r in
    good-chosen i b r (is_blank b) (begins b_slash b_slash bs) (begins b_slash b_star bs) (is_letter b) (is_digit_lem b)
    (begins b_ampersand b_ampersand bs) refl refl refl refl refl

-- what begins at a position within a source
pub good : (s : List ℕ) (i : ℕ) → i < length s → Good i (drop i s) (item i (drop i s))
good s i h = rw (drop-cons s i 0 h) (good-item i (get_or s i 0) (drop (suc i) s))
