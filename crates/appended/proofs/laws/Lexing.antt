-- The tokens of bytes as a relation on the bytes that are left, and what stays of them where bytes are put behind.
use Rattle.std.specs.Prelude.{ℕ, zero, suc, ◌+◌, ◌-◌, ◌≤◌, ◌<◌, List, [], ◌∷◌, ◌++◌, ◌≢◌, Bool, true, false, ◌≡◌, get_or, eqb, leb}
use Rattle.std.proofs.Common.{arith, inl, inr, sym, ◌∙◌, length-append, drop_of_length-le, drop-drop, leb-true, leb-false}
use Rattle.std.proofs.Math.Path.{refl, ap, subst}
use Rattle.std.proofs.Math.ListN.{length, drop, length-drop}
use Rattle.std.proofs.lemmas.List.{drop-append-le}
use Rattle.base.specs.Choice.{if◌then◌otherwise◌}
use Rattle.base.specs.Codes.{tokens_most}
use Rattle.base.specs.Outcome.{Outcome, accepted}
use Rattle.base.specs.laws.Tests.{apart}
use Rattle.lexer.specs.Bytes.{b_dot, is_blank, is_letter, is_digit_lem}
use Rattle.lexer.specs.Kinds.{k_dot, k_close_brace, mark_kind_lem}
use Rattle.lexer.specs.Tokens.{Token, Item, gap, unclosed, nothing, token, item, exceeds_length, zero_first, not_three, too_large}
use Rattle.lexer.specs.Tokens.{turn, tokens_from, tokens}
use Rattle.lexer.proofs.laws.ItemLaws.{Good, good}
use Rattle.typing.specs.laws.Choices.{bound, failed, refused-accepted}
use Rattle.appended.proofs.laws.Items.{Kept, item-kept}

-- a token that none of refusals 13, 60, 65 and 14 meets
pub record Fine (kind : ℕ) (text : List ℕ) : Type 0 where
  pub short : exceeds_length kind text ≡ false
  pub no_zero : zero_first kind text ≡ false
  pub three : not_three kind text ≡ false
  pub small : too_large kind text ≡ false

-- the bytes from position i on have these tokens
pub data HasTokens : (i : ℕ) → List ℕ → List Token → Type 0 where
  no_byte : {i : ℕ} → HasTokens i [] []
  a-gap : {i : ℕ} (n : ℕ) {bs : List ℕ} {ts : List Token} → 0 < n → n ≤ length bs → item i bs ≡ gap (i + n)
      → HasTokens (i + n) (drop n bs) ts → HasTokens i bs ts
  a-token : {i k : ℕ} {t bs : List ℕ} {ts : List Token} → 0 < length t → length t ≤ length bs → item i bs ≡ token k t → Fine k t
      → HasTokens (i + length t) (drop (length t) bs) ts → HasTokens i bs ((record { kind = k; start = i; text = t }) ∷ ts)

pub has-tokens-at : {i j : ℕ} {bs cs : List ℕ} {ts : List Token} → i ≡ j → bs ≡ cs → HasTokens i bs ts → HasTokens j cs ts
has-tokens-at {i} {cs = cs} {ts = ts} p q h = subst (λ (n : ℕ). HasTokens n cs ts) p (subst (λ (l : List ℕ). HasTokens i l ts) q h)

-- FROM THE FUNCTION

accepted-same : {A : Type 0} {a b : A} → accepted a ≡ accepted b → a ≡ b
accepted-same e = cc

module _ (s : List ℕ) (count i : ℕ) (next : ℕ → ℕ → Outcome (List Token))
    (after : (c j : ℕ) (us : List Token) → i < j → j ≤ length s → next c j ≡ accepted us → HasTokens j (drop j s) us)
    (inside : i < length s) (ts : List Token) where
  of-item : (x : Item) → item i (drop i s) ≡ x → Good i (drop i s) x → turn next count i x ≡ accepted ts → HasTokens i (drop i s) ts
  unfolding turn
  of-item (gap j) q g e =
      let n = length-drop i s in
      let r : i + (j - i) ≡ j = omega (arith, g.0) in
      a-gap (j - i) {bs = drop i s} (omega (arith, g.0)) (omega (arith, g.1)) (q ∙ ap gap (sym r))
      (has-tokens-at (sym r) (sym (drop-drop (j - i) i s ∙ ap (λ (m : ℕ). drop m s) r))
      (after count j ts g.0 (omega (arith, g.0, g.1)) e))
  of-item unclosed q g e = absurd (refused-accepted e)
  of-item nothing q g e = absurd (refused-accepted e)
  of-item (token k t) q g e =
      let n = length-drop i s in
      let many = failed (eqb count tokens_most) _ _ _ e in
      let long = failed (exceeds_length k t) _ _ _ many.1 in
      let zeroes = failed (zero_first k t) _ _ _ long.1 in
      let three = failed (not_three k t) _ _ _ zeroes.1 in
      let large = failed (too_large k t) _ _ _ three.1 in
      let d = bound (next (count + 1) (i + length t)) _ large.1 in
      subst (HasTokens i (drop i s)) (accepted-same d.2)
      (a-token g.nonempty g.short q (record { short = long.0; no_zero = zeroes.0; three = three.0; small = large.0 })
      (has-tokens-at refl (sym (drop-drop (length t) i s))
      (after (count + 1) (i + length t) d.0 (omega (arith, g.nonempty)) (omega (arith, g.short)) d.1)))

from-tokens : (f : ℕ) (s : List ℕ) (count i : ℕ) (ts : List Token) → length s < f + i → i ≤ length s → tokens_from f s count i ≡ accepted ts
    → HasTokens i (drop i s) ts
unfolding tokens_from
from-tokens zero s count i ts h l e = absurd (omega arith)
from-tokens (suc f) s count i ts h l e = go (λ c j us n m q. from-tokens f s c j us n m q) (leb (length s) i) refl e
  where
    next : ℕ → ℕ → Outcome (List Token)
    next c j = tokens_from f s c j

    go : ((c j : ℕ) (us : List Token) → length s < f + j → j ≤ length s → next c j ≡ accepted us → HasTokens j (drop j s) us)
        → (x : Bool) → leb (length s) i ≡ x
        → (if x then (λ _. accepted []) otherwise λ _. turn next count i (item i (drop i s))) ≡ accepted ts → HasTokens i (drop i s) ts
    go after true q e =
        let n : length s ≤ i = leb-true (length s) i q in
        subst (HasTokens i (drop i s)) (accepted-same e) (has-tokens-at refl (sym (drop_of_length-le s n)) no_byte)
    go after false q e =
        let n : i < length s = leb-false (length s) i q in
        of-item s count i next (λ c j us l m. after c j us (omega arith) m) n ts (item i (drop i s)) refl (good s i n) e

pub has-tokens : (s : List ℕ) (ts : List Token) → tokens s ≡ accepted ts → HasTokens 0 s ts
unfolding tokens
has-tokens s ts e = from-tokens (length s + 1) s 0 0 ts (omega arith) (omega arith) e

-- BYTES PUT BEHIND

-- what the first item says of the whole
after-gap : (n : ℕ) {i : ℕ} {bs : List ℕ} {ts : List Token} → HasTokens i bs ts → 0 < length bs → item i bs ≡ gap (i + n)
    → HasTokens (i + n) (drop n bs) ts
after-gap n no_byte l e = absurd (omega arith)
after-gap n {i} {bs} {ts} (a-gap m l k q r) h e =
    let z : gap (i + m) ≡ gap (i + n) = sym q ∙ e in
    let w : i + m ≡ i + n = cc in
    let v : m ≡ n = omega arith in
    has-tokens-at w (ap (λ (x : ℕ). drop x bs) v) r
after-gap n {i} (a-token {k = k} {t = t} l m q a r) h e = let z : token k t ≡ gap (i + n) = sym q ∙ e in apart (cc)

after-token : {i k : ℕ} {t bs : List ℕ} {ts : List Token} → HasTokens i bs ts → 0 < length bs → item i bs ≡ token k t
    → (us : List Token) × (ts ≡ (record { kind = k; start = i; text = t }) ∷ us) × HasTokens (i + length t) (drop (length t) bs) us
after-token no_byte l e = absurd (omega arith)
after-token {i} {k} {t} (a-gap n l m q r) h e = let z : gap (i + n) ≡ token k t = sym q ∙ e in apart (cc)
after-token {i} {k} {t} {bs} (a-token {k = j} {t = s} {ts = us} l m q a r) h e =
    let z : token j s ≡ token k t = sym q ∙ e in
    let x : j ≡ k = cc in
    let y : s ≡ t = cc in
    (us, cc, has-tokens-at (ap (λ (v : List ℕ). i + length v) y) (ap (λ (v : List ℕ). drop (length v) bs) y) r)

-- the bytes have one list of tokens
pub one-stream : {i : ℕ} {bs : List ℕ} {ts us : List Token} → HasTokens i bs ts → HasTokens i bs us → ts ≡ us
one-stream no_byte no_byte = refl
one-stream no_byte (a-gap n l m e r) = absurd (omega arith)
one-stream no_byte (a-token l m e a r) = absurd (omega arith)
one-stream (a-gap n l m e r) h = one-stream r (after-gap n h (omega arith) e)
one-stream (a-token {i = i} {k = k} {t = t} l m e a r) h =
    let w = after-token h (omega arith) e in
    ap (λ (x : List Token). (record { kind = k; start = i; text = t }) ∷ x) (one-stream r w.2) ∙ sym w.1

-- where there is a token there is a byte
some_byte : {i : ℕ} {bs : List ℕ} {t : Token} {ts : List Token} → HasTokens i bs (t ∷ ts) → 0 < length bs
some_byte (a-gap n l m e r) = omega arith
some_byte (a-token l m e a r) = omega arith

-- the last token, if any, is a closing brace
abbrev pub EndsInBrace : List Token → Type 0
EndsInBrace [] = Unit {0}
EndsInBrace (t ∷ []) = t.kind ≡ k_close_brace
EndsInBrace (t ∷ u ∷ ts) = EndsInBrace (u ∷ ts)

-- so bytes with such tokens are no point alone
no-point : {i : ℕ} (bs : List ℕ) {t : Token} {ts : List Token} → EndsInBrace (t ∷ ts) → HasTokens i bs (t ∷ ts) → length bs ≡ 1 → get_or bs 0
    0 ≢ b_dot
unfolding item is_blank is_letter is_digit_lem mark_kind_lem
no-point [] c h l e = absurd (omega arith)
no-point (b ∷ d ∷ bs) c h l e = absurd (omega arith)
no-point {i} (b ∷ []) {t} {ts} c h l e =
    let w = after-token {i = i} {k = k_dot} {t = b_dot ∷ []} (has-tokens-at refl (ap (λ (x : ℕ). x ∷ []) e) h) (omega arith) refl in
    let z : ts ≡ w.0 = ap tail w.1 in
    let n : w.0 ≡ [] = sym (one-stream no_byte w.2) in
    let k : t.kind ≡ k_dot = ap head w.1 in
    absurd (omega (arith, k, subst (λ (us : List Token). EndsInBrace (t ∷ us)) (z ∙ n) c))
  where
    head : List Token → ℕ
    head [] = 0
    head (t ∷ ts) = t.kind

    tail : List Token → List Token
    tail [] = []
    tail (t ∷ ts) = ts

-- whatever is put behind bytes whose last token is a closing brace, their tokens stay
pub tokens-begin : (u : List ℕ) {i : ℕ} {bs : List ℕ} {ts vs : List Token} → EndsInBrace ts → HasTokens i bs ts → HasTokens i (bs ++ u) vs
    → (us : List Token) × (vs ≡ ts ++ us)
tokens-begin u {vs = vs} c no_byte h = (vs, refl)
tokens-begin u {vs = vs} c (a-gap n {ts = []} l m e r) h = (vs, refl)
tokens-begin u {vs = vs} c (a-gap {i = i} n {bs = bs} {ts = t ∷ ts} l m e r) h =
    let o : 0 < length (drop n bs) = some_byte r in
    let p : n < length bs = omega (arith, length-drop n bs) in
    let k : item i (bs ++ u) ≡ gap (i + n) =
    item-kept i bs u (omega arith) (subst (Kept i bs u) (sym e) (λ j w. inl (omega arith))) ∙ e in
    tokens-begin u c r (has-tokens-at refl (drop-append-le n bs u m) (after-gap n h (omega (arith, length-append bs u)) k))
tokens-begin u {vs = vs} c (a-token {i = i} {k = k} {t = t} {bs = bs} {ts = []} l m e a r) h =
    let f : item i (bs ++ u) ≡ token k t = item-kept i bs u (omega arith) (subst (Kept i bs u) (sym e) (inr c)) ∙ e in
    let w = after-token h (omega (arith, length-append bs u)) f in
    (w.0, w.1)
tokens-begin u {vs = vs} c (a-token {i = i} {k = k} {t = t} {bs = bs} {ts = v ∷ ts} l m e a r) h =
    let o : 0 < length (drop (length t) bs) = some_byte r in
    let f : item i (bs ++ u) ≡ token k t =
    item-kept i bs u (omega arith) (subst (Kept i bs u) (sym e) (inl (inl (o, no-point (drop (length t) bs) c r)))) ∙ e in
    let w = after-token h (omega (arith, length-append bs u)) f in
    let z = tokens-begin u c r (has-tokens-at refl (drop-append-le (length t) bs u m) w.2) in
    (z.0, w.1 ∙ ap (λ (l : List Token). (record { kind = k; start = i; text = t }) ∷ l) z.1)
