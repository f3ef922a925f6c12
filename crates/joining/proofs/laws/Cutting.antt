-- What begins at a position, and the tokens, where bytes behind the item, or behind a token, are cut off.
use Rattle.std.specs.Prelude.{ℕ, zero, suc, ◌+◌, ◌-◌, ◌≤◌, ◌<◌, Bool, ◌&&◌, ◌≡◌, take, eqb}
use Rattle.std.proofs.Common.{arith, ◌∙◌, subst, take-append-drop, drop_of_length-le, take-add, drop_at, drop-drop, get_or-drop, length-take-le, eqb-true}
use mathlib.Core.List.{List, [], ◌∷◌, ◌++◌}
use Rattle.std.proofs.Math.Bool.{true, false, not}
use Rattle.std.proofs.lemmas.Bool.{false≢true}
use Rattle.std.proofs.Math.Option.{Option, none, some}
use Rattle.std.proofs.Math.Path.{refl, sym, ap}
use Rattle.std.proofs.Math.ListN.{length, drop, length-drop, length-append}
use Rattle.std.proofs.Math.Seq.{drop-append-le}
use Rattle.base.specs.Choice.{if◌then◌otherwise◌}
use Rattle.base.specs.laws.Tests.{apart, and-true, and-false}
use Rattle.lexer.specs.Bytes.{b_line_feed, b_slash, b_star, b_ampersand, b_dot, is_blank, is_letter, is_digit_lem, is_name_part_lem}
use Rattle.lexer.specs.Kinds.{k_fixed_literal, word_kind_lem}
use Rattle.lexer.specs.Tokens.{Token, Item, gap, unclosed, nothing, token, longest_run, begins, closing, comment, numeral, item}
use Rattle.lexer.proofs.laws.ItemLaws.{chosen}
use Rattle.parser.specs.Stream.{no_more, token_at, start_at}
use Rattle.appended.proofs.laws.Items.{closed-by, going_on, literal_item, numeral-is}
use Rattle.appended.proofs.laws.Lexing.{HasTokens, no_byte, a-gap, a-token, has-tokens-at}
use Rattle.joining.specs.Join.{end_at, slice}

-- RUNS

no_longer : (l : List ℕ) → length l ≤ 0 → [] ≡ l
no_longer [] h = refl
no_longer (x ∷ l) h = absurd (omega arith)

run-cut : (p : ℕ → Bool) (a u : List ℕ) → length (longest_run p (a ++ u)) ≤ length a → longest_run p a ≡ longest_run p (a ++ u)
unfolding longest_run
run-cut p [] u h = no_longer (longest_run p u) h
run-cut p (b ∷ a) u h = go (p b) h (run-cut p a u)
  where
    go : (c : Bool) → length (if c then (λ _. b ∷ longest_run p (a ++ u)) otherwise λ _. []) ≤ suc (length a)
        → (length (longest_run p (a ++ u)) ≤ length a → longest_run p a ≡ longest_run p (a ++ u))
        → (if c then (λ _. b ∷ longest_run p a) otherwise λ _. []) ≡ (if c then (λ _. b ∷ longest_run p (a ++ u)) otherwise λ _. [])
    go true h f = ap (λ (l : List ℕ). b ∷ l) (f (omega arith))
    go false h f = refl

-- COMMENTS

-- which of three tests gave an answer of `closing`
by_answer : (R : Type 0) (x y z : Bool) (o p q : Unit {0} → Option ℕ) (m : ℕ) {j : ℕ}
    → (o tt ≡ some j → R) → (p tt ≡ some j → R) → (q tt ≡ some j → R) → (m ≡ j → R)
    → (if x then o otherwise λ _. if y then (λ _. if z then (λ _. some m) otherwise p) otherwise q) ≡ some j → R
by_answer R true y z o p q m f g h k e = f e
by_answer R false true true o p q m f g h k e = k (cc)
by_answer R false true false o p q m f g h k e = g e
by_answer R false false z o p q m f g h k e = h e

closing-past : (d i : ℕ) (bs : List ℕ) {j : ℕ} → closing d i bs ≡ some j → i + 2 ≤ j
unfolding closing
closing-past d i [] e = apart (cc)
closing-past d i (a ∷ []) e = apart (cc)
closing-past d i (a ∷ b ∷ bs) {j} e =
    by_answer (i + 2 ≤ j) (eqb a b_slash && eqb b b_star) (eqb a b_star && eqb b b_slash) (eqb d 1) _ _ _ (i + 2)
    (λ q. omega (arith, closing-past (d + 1) (i + 2) bs q)) (λ q. omega (arith, closing-past (d - 1) (i + 2) bs q))
    (λ q. omega (arith, closing-past d (i + 1) (b ∷ bs) q)) (λ q. omega arith) e

closing-cut : (d i : ℕ) (a u : List ℕ) {j : ℕ} → j ≤ i + length a → closing d i (a ++ u) ≡ some j → closing d i a ≡ some j
unfolding closing
closing-cut d i [] u l e = absurd (omega (arith, closing-past d i u e))
closing-cut d i (b ∷ []) u l e = absurd (omega (arith, closing-past d i (b ∷ u) e))
closing-cut d i (b ∷ c ∷ a) u l e =
    closed-by (eqb b b_slash && eqb c b_star) (eqb b b_star && eqb c b_slash) (eqb d 1) _ _ _ _ _ _ (i + 2)
    (closing-cut (d + 1) (i + 2) a u (omega arith)) (closing-cut (d - 1) (i + 2) a u (omega arith))
    (closing-cut d (i + 1) (c ∷ a) u (omega arith)) e

-- an item that ends within the bytes a
abbrev Within : (i : ℕ) → List ℕ → Item → Type 0
Within i a (gap j) = j ≤ i + length a
Within i a unclosed = ⊥
Within i a nothing = ⊥
Within i a (token k t) = length t ≤ length a

-- LITERALS

goes-on-cut : (rest u : List ℕ) → going_on (rest ++ u) ≡ false → going_on rest ≡ false
unfolding is_digit_lem
goes-on-cut [] u e = refl
goes-on-cut (c ∷ []) u e = and-false (eqb c b_dot)
goes-on-cut (c ∷ d ∷ rest) u e = e

two-cut : (rest u : List ℕ) → 1 < length rest → going_on rest ≡ going_on (rest ++ u)
two-cut [] u l = absurd (omega arith)
two-cut (c ∷ []) u l = absurd (omega arith)
two-cut (c ∷ d ∷ rest) u l = refl

-- a digit stands behind the point
some-fraction : (rest : List ℕ) → going_on rest ≡ true → 0 < length (longest_run is_digit_lem (drop 1 rest))
unfolding is_digit_lem longest_run
some-fraction [] e = apart (cc)
some-fraction (c ∷ []) e = absurd (false≢true (sym (and-false (eqb c b_dot)) ∙ e))
some-fraction (c ∷ d ∷ rest) e = rw (and-true (eqb c b_dot) (is_digit_lem d) e).1 (omega arith)

module _ (i : ℕ) (a u : List ℕ) where
  whole : List ℕ
  whole = longest_run is_digit_lem (a ++ u)

  rest : List ℕ
  rest = drop (length whole) a

  numeral-cut : (b : Bool) → going_on (drop (length whole) (a ++ u)) ≡ b
      → Within i a (literal_item b whole (drop (length whole) (a ++ u))) → numeral a ≡ literal_item b whole (drop (length whole) (a ++ u))
  unfolding whole rest
  numeral-cut true e h =
      let fraction = longest_run is_digit_lem (drop 1 (drop (length whole) (a ++ u))) in
      let n = length-append whole (b_dot ∷ fraction) in
      let r : drop (length whole) (a ++ u) ≡ rest ++ u = drop-append-le (length whole) a u (omega (arith, n)) in
      let some = some-fraction (drop (length whole) (a ++ u)) e in
      let m = length-drop (length whole) a in
      let two : 1 < length rest = omega (arith, n, some, m) in
      let one : drop 1 (rest ++ u) ≡ drop 1 rest ++ u = drop-append-le 1 rest u (omega arith) in
      let f : fraction ≡ longest_run is_digit_lem (drop 1 rest ++ u) = ap (λ (l : List ℕ). longest_run is_digit_lem (drop 1 l)) r ∙ ap
      (longest_run is_digit_lem) one in
      numeral-is whole rest a (run-cut is_digit_lem a u (omega (arith, n))) refl
      ∙ ap (λ (c : Bool). literal_item c whole rest) (two-cut rest u two ∙ ap going_on (sym r) ∙ e)
      ∙ ap (λ (l : List ℕ). token k_fixed_literal (whole ++ b_dot ∷ l))
      (run-cut is_digit_lem (drop 1 rest) u (omega (arith, n, m, ap length f, length-drop 1 rest)) ∙ sym f)
  numeral-cut false e h =
      let r : drop (length whole) (a ++ u) ≡ rest ++ u = drop-append-le (length whole) a u h in
      numeral-is whole rest a (run-cut is_digit_lem a u h) refl
      ∙ ap (λ (c : Bool). literal_item c whole rest) (goes-on-cut rest u (ap going_on (sym r) ∙ e))

-- ITEMS

module _ (i b : ℕ) (r u : List ℕ) where
  cut-comment : (o : Option ℕ) → closing 1 (i + 2) (drop 1 (r ++ u)) ≡ o → Within i (b ∷ r) (comment o)
      → comment (closing 1 (i + 2) (drop 1 r)) ≡ comment o
  cut-comment none e h = absurd h
  cut-comment (some j) e h = ap comment (inside r h e)
    where
      inside : (r : List ℕ) → j ≤ i + length (b ∷ r) → closing 1 (i + 2) (drop 1 (r ++ u)) ≡ some j → closing 1 (i + 2) (drop 1 r) ≡ some j
      inside [] h e = absurd (omega (arith, closing-past 1 (i + 2) (drop 1 u) e))
      inside (c ∷ r) h e = closing-cut 1 (i + 2) r u (omega arith) e

  cut-chosen : (x₁ x₂ x₃ x₄ x₅ x₆ : Bool) → Within i (b ∷ r) (chosen i b (r ++ u) x₁ x₂ x₃ x₄ x₅ x₆)
      → chosen i b r x₁ x₂ x₃ x₄ x₅ x₆ ≡ chosen i b (r ++ u) x₁ x₂ x₃ x₄ x₅ x₆
  unfolding whole rest
  cut-chosen true x₂ x₃ x₄ x₅ x₆ h = refl
  cut-chosen false true x₃ x₄ x₅ x₆ h =
      ap (λ (l : List ℕ). gap (i + length l)) (run-cut (λ c. not (eqb c b_line_feed)) (b ∷ r) u (omega arith))
  cut-chosen false false true x₄ x₅ x₆ h = cut-comment (closing 1 (i + 2) (drop 1 (r ++ u))) refl h
  cut-chosen false false false true x₅ x₆ h = ap (λ (l : List ℕ). token (word_kind_lem l) l) (run-cut is_name_part_lem (b ∷ r) u h)
  cut-chosen false false false false true x₆ h =
      numeral-cut i (b ∷ r) u (going_on (drop (length (whole i (b ∷ r) u)) (b ∷ r ++ u))) refl h
  cut-chosen false false false false false true h = refl
  cut-chosen false false false false false false h = refl

-- one byte alone: two would be needed to begin a comment or `&&`
long-comment : (b : ℕ) (u : List ℕ) → begins b_slash b_slash (b ∷ u) ≡ true → 2 ≤ length (longest_run (λ c. not (eqb c b_line_feed)) (b ∷ u))
unfolding longest_run
long-comment b [] e = apart (cc)
long-comment b (c ∷ u) e =
    let q = and-true (eqb b_slash b) (eqb b_slash c) e in
    rw (sym (eqb-true b_slash b q.0), sym (eqb-true b_slash c q.1)) (omega arith)

cut-one : (i b : ℕ) (u : List ℕ) (x₁ x₂ x₃ x₄ x₅ x₆ : Bool) → begins b_slash b_slash (b ∷ u) ≡ x₂
    → Within i (b ∷ []) (chosen i b u x₁ x₂ x₃ x₄ x₅ x₆) → chosen i b [] x₁ false false x₄ x₅ false ≡ chosen i b u x₁ x₂ x₃ x₄ x₅ x₆
cut-one i b u true x₂ x₃ x₄ x₅ x₆ e h = refl
cut-one i b u false true x₃ x₄ x₅ x₆ e h = absurd (omega (arith, long-comment b u e))
cut-one i b u false false true x₄ x₅ x₆ e h = absurd (never (closing 1 (i + 2) (drop 1 u)) refl h)
  where
    never : (o : Option ℕ) → closing 1 (i + 2) (drop 1 u) ≡ o → Within i (b ∷ []) (comment o) → ⊥
    never none q h = h
    never (some j) q h = omega (arith, closing-past 1 (i + 2) (drop 1 u) q)
cut-one i b u false false false true x₅ x₆ e h = cut-chosen i b [] u false false false true x₅ x₆ h
cut-one i b u false false false false true x₆ e h = cut-chosen i b [] u false false false false true x₆ h
cut-one i b u false false false false false true e h = absurd (omega arith)
cut-one i b u false false false false false false e h = refl

item-cut : (i : ℕ) (a u : List ℕ) → 0 < length a → Within i a (item i (a ++ u)) → item i a ≡ item i (a ++ u)
unfolding item
item-cut i [] u l h = absurd (omega arith)
item-cut i (b ∷ []) u l h =
    cut-one i b u (is_blank b) (begins b_slash b_slash (b ∷ u)) (begins b_slash b_star (b ∷ u)) (is_letter b) (is_digit_lem b)
    (begins b_ampersand b_ampersand (b ∷ u)) refl h
item-cut i (b ∷ c ∷ r) u l h =
    cut-chosen i b (c ∷ r) u (is_blank b) (eqb b_slash b && eqb b_slash c) (eqb b_slash b && eqb b_star c) (is_letter b) (is_digit_lem b)
    (eqb b_ampersand b && eqb b_ampersand c) h

-- TOKENS

bounds : {i : ℕ} {bs : List ℕ} {ts : List Token} → HasTokens i bs ts → (m : ℕ) → m < length ts
    → (i ≤ start_at ts m) × (end_at ts m ≤ i + length bs)
bounds no_byte m h = absurd (omega arith)
bounds (a-gap n {bs = bs} l k e r) m h = let w = bounds r m h in (omega (arith, w.0), omega (arith, w.1, length-drop n bs))
bounds (a-token l k e a r) zero h = (omega arith, omega arith)
bounds (a-token {t = t} {bs = bs} l k e a r) (suc m) h =
    let w = bounds r m (omega arith) in (omega (arith, w.0), omega (arith, w.1, length-drop (length t) bs))

item-taken : (i c : ℕ) (bs : List ℕ) → 0 < c → c ≤ length bs → Within i (take c bs) (item i bs) → item i (take c bs) ≡ item i bs
item-taken i c bs p l h =
    let e : take c bs ++ drop c bs ≡ bs = take-append-drop c bs in
    item-cut i (take c bs) (drop c bs) (omega (arith, length-take-le c bs l))
    (subst (λ (x : List ℕ). Within i (take c bs) (item i x)) (sym e) h) ∙ ap (item i) e

drop-taken : (n m : ℕ) (l : List ℕ) → n ≤ length l → drop n (take (n + m) l) ≡ take m (drop n l)
drop-taken n m l h =
    ap (λ (x : List ℕ). drop n x) (take-add n m l) ∙ drop_at (take n l) (take m (drop n l)) n (length-take-le n l h)

-- the bytes up to the end of token m have the tokens up to it
tokens-take : {i : ℕ} {bs : List ℕ} {ts : List Token} → HasTokens i bs ts → (m c : ℕ) → m < length ts → end_at ts m ≡ i + c
    → HasTokens i (take c bs) (take (suc m) ts)
tokens-take no_byte m c h q = absurd (omega arith)
tokens-take {i} {bs} {ts} (a-gap n l k e r) m c h q =
    let w = bounds r m h in
    let b = bounds (a-gap n {bs = bs} l k e r) m h in
    let c≤ : c ≤ length bs = omega (arith, b.1) in
    let n≤ : n ≤ c = omega (arith, w.0) in
    let len = length-take-le c bs c≤ in
    let s : n + (c - n) ≡ c = omega arith in
    a-gap n {bs = take c bs} l (omega arith) (item-taken i c bs (omega arith) c≤ (subst (Within i (take c bs)) (sym e) (omega arith)) ∙ e)
    (has-tokens-at refl (sym (drop-taken n (c - n) bs k) ∙ ap (λ (x : ℕ). drop n (take x bs)) s) (tokens-take r m (c - n) h (omega arith)))
tokens-take {i} {bs} (a-token {t = t} {ts = ts} l k e a r) zero c h q =
    let z : c ≡ length t = omega arith in
    let c≤ : c ≤ length bs = omega arith in
    let len = length-take-le c bs c≤ in
    a-token {t = t} {bs = take c bs} l (omega arith)
    (item-taken i c bs (omega arith) c≤ (subst (Within i (take c bs)) (sym e) (omega arith)) ∙ e) a
    (has-tokens-at refl (sym (drop_of_length-le (take c bs) {i = length t} (omega arith))) no_byte)
tokens-take {i} {bs} (a-token {t = t} {ts = ts} l k e a r) (suc m) c h q =
    let w = bounds r m (omega arith) in
    let v = bounds (a-token {t = t} {bs = bs} l k e a r) (suc m) h in
    let c≤ : c ≤ length bs = omega (arith, v.1) in
    let n≤ : length t ≤ c = omega (arith, w.0) in
    let len = length-take-le c bs c≤ in
    let s : length t + (c - length t) ≡ c = omega arith in
    a-token {t = t} {bs = take c bs} l (omega arith)
    (item-taken i c bs (omega arith) c≤ (subst (Within i (take c bs)) (sym e) (omega arith)) ∙ e) a
    (has-tokens-at refl (sym (drop-taken (length t) (c - length t) bs k) ∙ ap (λ (x : ℕ). drop (length t) (take x bs)) s)
    (tokens-take r m (c - length t) (omega arith) (omega arith)))

-- the bytes from the begin of token m on have the tokens from it on
tokens-drop : {i : ℕ} {bs : List ℕ} {ts : List Token} → HasTokens i bs ts → (m c : ℕ) → m < length ts → start_at ts m ≡ i + c
    → HasTokens (i + c) (drop c bs) (drop m ts)
tokens-drop no_byte m c h q = absurd (omega arith)
tokens-drop {i} {bs} (a-gap n l k e r) m c h q =
    let w = bounds r m h in
    let s : n + (c - n) ≡ c = omega (arith, w.0) in
    has-tokens-at (omega arith) (drop-drop (c - n) n bs ∙ ap (λ (x : ℕ). drop x bs) s) (tokens-drop r m (c - n) h (omega arith))
tokens-drop {i} {bs} (a-token {t = t} l k e a r) zero c h q =
    let z : 0 ≡ c = omega arith in
    has-tokens-at (omega arith) (ap (λ (x : ℕ). drop x bs) z) (a-token {t = t} {bs = bs} l k e a r)
tokens-drop {i} {bs} (a-token {t = t} l k e a r) (suc m) c h q =
    let w = bounds r m (omega arith) in
    let s : length t + (c - length t) ≡ c = omega (arith, w.0) in
    has-tokens-at (omega arith) (drop-drop (c - length t) (length t) bs ∙ ap (λ (x : ℕ). drop x bs) s)
    (tokens-drop r m (c - length t) (omega arith) (omega arith))

from-token : {s : List ℕ} {ts : List Token} → HasTokens 0 s ts → (m : ℕ) → m < length ts
    → HasTokens (start_at ts m) (drop (start_at ts m) s) (drop m ts)
from-token {s} {ts} h m l = has-tokens-at (omega arith) refl (tokens-drop h m (start_at ts m) l (omega arith))

-- the bytes from the begin of token m to the end of token k have the tokens between, both included
pub tokens-part : {s : List ℕ} {ts : List Token} → HasTokens 0 s ts → (m k : ℕ) → m ≤ k → k < length ts
    → HasTokens (start_at ts m) (slice (start_at ts m) (end_at ts k) s) (take (suc (k - m)) (drop m ts))
tokens-part {s} {ts} h m k l b =
    let r : m + (k - m) ≡ k = omega arith in
    let g : token_at (drop m ts) (k - m) ≡ token_at ts k = get_or-drop m ts (k - m) no_more ∙ ap (token_at ts) r in
    let E : end_at (drop m ts) (k - m) ≡ end_at ts k = ap (λ (t : Token). t.start + length t.text) g in
    let D = from-token h m (omega arith) in
    let u : k - m < length (drop m ts) = omega (arith, length-drop m ts) in
    let w = bounds D (k - m) u in
    tokens-take D (k - m) (end_at ts k - start_at ts m) u (omega (arith, w.0))

-- a token begins no later than the next
pub starts-order : {s : List ℕ} {ts : List Token} → HasTokens 0 s ts → (m : ℕ) → m + 1 < length ts → start_at ts m ≤ start_at ts (m + 1)
starts-order {s} {ts} h m l =
    let w = bounds (from-token h m (omega arith)) 1 (omega (arith, length-drop m ts)) in
    omega (arith, w.0, ap (λ (t : Token). t.start) (get_or-drop m ts 1 no_more))
