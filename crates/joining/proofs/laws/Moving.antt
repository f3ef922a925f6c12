-- What begins at a position, and the tokens, where the bytes stand at another position.
use Rattle.std.specs.Prelude.{ℕ, ◌+◌, ◌-◌, ◌<◌, List, [], ◌∷◌, map, Bool, true, false, ◌&&◌, ◌≡◌, refl, length, drop, eqb}
use Rattle.std.proofs.Common.{add-zero, arith, sym, ap, ◌∙◌, subst}
use Rattle.std.proofs.Math.Option.{Option, none, some}
use Rattle.base.specs.Choice.{if◌then◌otherwise◌}
use Rattle.base.specs.laws.Tests.{apart}
use Rattle.lexer.specs.Bytes.{b_slash, b_star, b_ampersand, is_blank, is_letter, is_digit_lem}
use Rattle.lexer.specs.Kinds.{k_end, mark_kind_lem}
use Rattle.lexer.specs.Tokens.{Token, Item, gap, unclosed, nothing, token, longest_run, begins, closing, comment, mark, numeral, item}
use Rattle.lexer.proofs.laws.ItemLaws.{chosen}
use Rattle.appended.specs.Moved.{shift, move_token}
use Rattle.appended.proofs.laws.Items.{going_on, literal_item}
use Rattle.appended.proofs.laws.Lexing.{HasTokens, no_byte, a-gap, a-token}

-- ITEMS

abbrev move_item : ℕ → Item → Item
move_item d (gap j) = gap (d + j)
move_item d unclosed = unclosed
move_item d nothing = nothing
move_item d (token k t) = token k t

abbrev move_end : ℕ → Option ℕ → Option ℕ
move_end d none = none
move_end d (some j) = some (d + j)

moved_by : (d : ℕ) (x y z : Bool) (o p q o' p' q' : Unit {0} → Option ℕ) (m m' : ℕ)
    → o' tt ≡ move_end d (o tt) → p' tt ≡ move_end d (p tt) → q' tt ≡ move_end d (q tt) → m' ≡ d + m
    → (if x then o' otherwise λ _. if y then (λ _. if z then (λ _. some m') otherwise p') otherwise q')
    ≡ move_end d (if x then o otherwise λ _. if y then (λ _. if z then (λ _. some m) otherwise p) otherwise q)
moved_by d true y z o p q o' p' q' m m' f g h e = f
moved_by d false true true o p q o' p' q' m m' f g h e = ap (λ (n : ℕ). some n) e
moved_by d false true false o p q o' p' q' m m' f g h e = g
moved_by d false false z o p q o' p' q' m m' f g h e = h

closing-moved : (d e i i' : ℕ) (bs : List ℕ) → i' ≡ d + i → closing e i' bs ≡ move_end d (closing e i bs)
unfolding closing
closing-moved d e i i' [] q = refl
closing-moved d e i i' (a ∷ []) q = refl
closing-moved d e i i' (a ∷ b ∷ bs) q =
    moved_by d (eqb a b_slash && eqb b b_star) (eqb a b_star && eqb b b_slash) (eqb e 1) _ _ _ _ _ _ (i + 2) (i' + 2)
    (closing-moved d (e + 1) (i + 2) (i' + 2) bs (omega arith)) (closing-moved d (e - 1) (i + 2) (i' + 2) bs (omega arith))
    (closing-moved d e (i + 1) (i' + 1) (b ∷ bs) (omega arith)) (omega arith)

comment-moved : (d : ℕ) (o : Option ℕ) → comment (move_end d o) ≡ move_item d (comment o)
comment-moved d none = refl
comment-moved d (some j) = refl

mark-moved : (d b k : ℕ) → mark b k ≡ move_item d (mark b k)
mark-moved d b k = go (eqb k k_end)
  where
    go : (c : Bool) → (if c then (λ _. nothing) otherwise λ _. token k (b ∷ [])) ≡ move_item d
        (if c then (λ _. nothing) otherwise λ _. token k (b ∷ []))
    go true = refl
    go false = refl

numeral-moved : (d : ℕ) (bs : List ℕ) → numeral bs ≡ move_item d (numeral bs)
numeral-moved d bs = go (going_on (drop (length (longest_run is_digit_lem bs)) bs)) (longest_run is_digit_lem bs)
    (drop (length (longest_run is_digit_lem bs)) bs)
  where
    go : (c : Bool) (whole rest : List ℕ) → literal_item c whole rest ≡ move_item d (literal_item c whole rest)
    go true whole rest = refl
    go false whole rest = refl

chosen-moved : (d i i' b : ℕ) (r : List ℕ) → i' ≡ d + i → (x₁ x₂ x₃ x₄ x₅ x₆ : Bool)
    → chosen i' b r x₁ x₂ x₃ x₄ x₅ x₆ ≡ move_item d (chosen i b r x₁ x₂ x₃ x₄ x₅ x₆)
chosen-moved d i i' b r q true x₂ x₃ x₄ x₅ x₆ = ap (λ (n : ℕ). gap n) (omega arith)
chosen-moved d i i' b r q false true x₃ x₄ x₅ x₆ = ap (λ (n : ℕ). gap n) (omega arith)
chosen-moved d i i' b r q false false true x₄ x₅ x₆ =
    ap comment (closing-moved d 1 (i + 2) (i' + 2) (drop 1 r) (omega arith)) ∙ comment-moved d (closing 1 (i + 2) (drop 1 r))
chosen-moved d i i' b r q false false false true x₅ x₆ = refl
chosen-moved d i i' b r q false false false false true x₆ = numeral-moved d (b ∷ r)
chosen-moved d i i' b r q false false false false false true = refl
chosen-moved d i i' b r q false false false false false false = mark-moved d b (mark_kind_lem b)

item-moved : (d i i' : ℕ) (bs : List ℕ) → 0 < length bs → i' ≡ d + i → item i' bs ≡ move_item d (item i bs)
unfolding item
item-moved d i i' [] l q = absurd (omega arith)
item-moved d i i' (b ∷ r) l q =
    let bs = b ∷ r in
    chosen-moved d i i' b r q (is_blank b) (begins b_slash b_slash bs) (begins b_slash b_star bs) (is_letter b) (is_digit_lem b)
    (begins b_ampersand b_ampersand bs)

-- TOKENS

-- the item at i, and at j
gap-elsewhere : (i j n : ℕ) (x : Item) → move_item i x ≡ gap (i + n) → move_item j x ≡ gap (j + n)
gap-elsewhere i j n (gap m) e = let z : i + m ≡ i + n = cc in ap gap (omega arith)
gap-elsewhere i j n unclosed e = apart (cc)
gap-elsewhere i j n nothing e = apart (cc)
gap-elsewhere i j n (token k t) e = apart (cc)

token-elsewhere : (i j k : ℕ) (t : List ℕ) (x : Item) → move_item i x ≡ token k t → move_item j x ≡ token k t
token-elsewhere i j k t (gap m) e = apart (cc)
token-elsewhere i j k t unclosed e = apart (cc)
token-elsewhere i j k t nothing e = apart (cc)
token-elsewhere i j k t (token l u) e = e

-- what begins at i, by what would begin at 0
from_zero : (i : ℕ) (bs : List ℕ) → 0 < length bs → item i bs ≡ move_item i (item 0 bs)
from_zero i bs l = item-moved i 0 i bs l (sym (add-zero i))

pub tokens-moved : (x n : ℕ) {i j : ℕ} {bs : List ℕ} {ts : List Token} → HasTokens i bs ts → j + x ≡ n + i
    → HasTokens j bs (map (move_token (shift x n)) ts)
tokens-moved x n no_byte q = no_byte
tokens-moved x n {j = j} (a-gap {i = i} m {bs = bs} l k e r) q =
    let some : 0 < length bs = omega arith in
    a-gap m {bs = bs} l k (from_zero j bs some ∙ gap-elsewhere i j m (item 0 bs) (sym (from_zero i bs some) ∙ e))
    (tokens-moved x n r (omega arith))
tokens-moved x n {j = j} {bs = bs} (a-token {i = i} {k = k} {t = t} {ts = us} l m e a r) q =
    let some : 0 < length bs = omega arith in
    let e' = from_zero j bs some ∙ token-elsewhere i j k t (item 0 bs) (sym (from_zero i bs some) ∙ e) in
    subst (λ (s : ℕ). HasTokens j bs ((record { kind = k; start = s; text = t }) ∷ map (move_token (shift x n)) us)) (omega arith)
    (a-token {t = t} {bs = bs} l m e' a (tokens-moved x n r (omega arith)))
