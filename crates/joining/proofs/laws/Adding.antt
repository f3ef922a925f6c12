-- From the relation back to the tokens of a source, or to 15 where they are too many; and the tokens of bytes with a new line behind them.
use Prim.Native.Nat.{ℕ, zero, suc, ◌+◌, ◌≤◌, ◌<◌}
use Rattle.std.proofs.Common.{add-zero, arith, inl, inr, sym, ap, ◌∙◌, subst, length-drop, length-append, drop-drop}
use Rattle.std.proofs.Math.Decide.{dec_lt}
use Rattle.std.specs.Prelude.{List, [], ◌∷◌, ◌++◌, ◌≡◌, length, drop}
use Rattle.std.proofs.Math.Bool.{false}
use Rattle.std.proofs.Math.Path.{refl}
use Rattle.std.proofs.Math.Dec.{eqb}
use Rattle.std.proofs.lemmas.List.{drop-append-le}
use borrow.Author.Tests.{eq-eqb, ne_eqb, le-leb, lt-leb}
use Rattle.base.specs.Codes.{tokens_most, too_many_tokens}
use Rattle.base.specs.Outcome.{accepted, refused}
use Rattle.lexer.specs.Bytes.{b_line_feed, is_blank}
use Rattle.lexer.specs.Tokens.{Token, gap, token, item, turn, tokens_from, tokens}
use Rattle.typing.specs.laws.Choices.{refused-accepted}
use Rattle.appended.specs.Behind.{NewLine}
use Rattle.appended.proofs.laws.Items.{Kept, item-kept}
use Rattle.appended.proofs.laws.Lexing.{Fine, HasTokens, no_byte, a-gap, a-token, has-tokens-at, has-tokens}

-- TO THE FUNCTION

module _ (s : List ℕ) where
  past-gap : (f count i n : ℕ) → i < length s → item i (drop i s) ≡ gap (i + n) → tokens_from (suc f) s count i ≡ tokens_from f s count
      (i + n)
  unfolding tokens_from turn
  past-gap f count i n l e = rw (lt-leb (length s) i l, e)

  -- a token that is not one too many: what is accepted behind it, and what is refused
  past-token : (f count i k : ℕ) (t : List ℕ) (ts : List Token) → i < length s → item i (drop i s) ≡ token k t → Fine k t
      → count < tokens_most → tokens_from f s (count + 1) (i + length t) ≡ accepted ts
      → tokens_from (suc f) s count i ≡ accepted ((record { kind = k; start = i; text = t }) ∷ ts)
  unfolding tokens_from turn
  past-token f count i k t ts l e a c h =
      let n : eqb count tokens_most ≡ false = ne_eqb count tokens_most (λ q. omega arith) in
      rw (lt-leb (length s) i l, e, n, a.short, a.no_zero, a.three, a.small, h)

  refused-behind : (f count i k n p : ℕ) (t : List ℕ) → i < length s → item i (drop i s) ≡ token k t → Fine k t → count < tokens_most
      → tokens_from f s (count + 1) (i + length t) ≡ refused n p → tokens_from (suc f) s count i ≡ refused n p
  unfolding tokens_from turn
  refused-behind f count i k n p t l e a c h =
      let m : eqb count tokens_most ≡ false = ne_eqb count tokens_most (λ q. omega arith) in
      rw (lt-leb (length s) i l, e, m, a.short, a.no_zero, a.three, a.small, h)

  one-too-many : (f count i k : ℕ) (t : List ℕ) → i < length s → item i (drop i s) ≡ token k t → count ≡ tokens_most
      → tokens_from (suc f) s count i ≡ refused too_many_tokens i
  unfolding tokens_from turn
  one-too-many f count i k t l e c = rw (lt-leb (length s) i l, e, eq-eqb count tokens_most c)

  at-end : (f count i : ℕ) → length s ≤ i → tokens_from f s count i ≡ accepted []
  unfolding tokens_from
  at-end zero count i h = refl
  at-end (suc f) count i h = rw (le-leb (length s) i h)

  few : {i : ℕ} {bs : List ℕ} {ts : List Token} → HasTokens i bs ts → (f count : ℕ) → drop i s ≡ bs → length s < f + i
      → count + length ts ≤ tokens_most → tokens_from f s count i ≡ accepted ts
  few (no_byte {i = i}) f count q h c = at-end f count i (omega (arith, length-drop i s, ap length q))
  few (a-gap {i = i} n l m e r) zero count q h c = absurd (omega (arith, length-drop i s, ap length q))
  few (a-gap {i = i} n l m e r) (suc f) count q h c =
      past-gap f count i n (omega (arith, length-drop i s, ap length q)) (ap (item i) q ∙ e)
      ∙ few r f count (sym (drop-drop n i s) ∙ ap (λ (x : List ℕ). drop n x) q) (omega arith) c
  few (a-token {i = i} l m e a r) zero count q h c = absurd (omega (arith, length-drop i s, ap length q))
  few (a-token {i = i} {k = k} {t = t} {ts = ts} l m e a r) (suc f) count q h c =
      past-token f count i k t ts (omega (arith, length-drop i s, ap length q)) (ap (item i) q ∙ e) a (omega arith)
      (few r f (count + 1) (sym (drop-drop (length t) i s) ∙ ap (λ (x : List ℕ). drop (length t) x) q) (omega arith) (omega arith))

  many : {i : ℕ} {bs : List ℕ} {ts : List Token} → HasTokens i bs ts → (f count : ℕ) → drop i s ≡ bs → length s < f + i
      → count ≤ tokens_most → tokens_most < count + length ts → (p : ℕ) × (tokens_from f s count i ≡ refused too_many_tokens p)
  many no_byte f count q h c m = absurd (omega arith)
  many (a-gap {i = i} n l k e r) zero count q h c m = absurd (omega (arith, length-drop i s, ap length q))
  many (a-gap {i = i} n l k e r) (suc f) count q h c m =
      let w = many r f count (sym (drop-drop n i s) ∙ ap (λ (x : List ℕ). drop n x) q) (omega arith) c m in
      (w.0, past-gap f count i n (omega (arith, length-drop i s, ap length q)) (ap (item i) q ∙ e) ∙ w.1)
  many (a-token {i = i} l k e a r) zero count q h c m = absurd (omega (arith, length-drop i s, ap length q))
  many (a-token {i = i} {k = k} {t = t} l k₁ e a r) (suc f) count q h c m =
      let here : i < length s = omega (arith, length-drop i s, ap length q) in
      elim (dec_lt count tokens_most) [
        | yes lt ↦
            let w = many r f (count + 1) (sym (drop-drop (length t) i s) ∙ ap (λ (x : List ℕ). drop (length t) x) q)
            (omega arith) (omega arith) (omega arith) in
            (w.0, refused-behind f count i k too_many_tokens w.0 t here (ap (item i) q ∙ e) a lt w.1)
        | no ge ↦ (i, one-too-many f count i k t here (ap (item i) q ∙ e) (omega arith))
      ]

pub few-tokens : (s : List ℕ) (ts : List Token) → HasTokens 0 s ts → length ts ≤ tokens_most → tokens s ≡ accepted ts
unfolding tokens
few-tokens s ts h l = few s h (length s + 1) 0 refl (omega arith) (omega arith)

-- with too many tokens the source is refused with 15, at the 2,049th
pub many-tokens : (s : List ℕ) (ts : List Token) → HasTokens 0 s ts → tokens_most < length ts
    → (p : ℕ) × (tokens s ≡ refused too_many_tokens p)
unfolding tokens
many-tokens s ts h l = many s h (length s + 1) 0 refl (omega arith) (omega arith) (omega arith)

-- so an accepted source has at most 2,048
pub tokens-few : (s : List ℕ) (ts : List Token) → tokens s ≡ accepted ts → length ts ≤ tokens_most
tokens-few s ts e = elim (dec_lt tokens_most (length ts)) [
  | yes l ↦ absurd (refused-accepted (sym (many-tokens s ts (has-tokens s ts e) l).1 ∙ e))
  | no l ↦ omega arith
]

-- A NEW LINE BEHIND

pub tokens_append : {i : ℕ} {bs u : List ℕ} {ts us : List Token} → NewLine u → HasTokens i bs ts → HasTokens (i + length bs) u us
    → HasTokens i (bs ++ u) (ts ++ us)
tokens_append {u = u} {us = us} q (no_byte {i = i}) h = has-tokens-at (add-zero i) refl h
tokens_append {u = u} q (a-gap {i = i} n {bs = bs} l m e r) h =
    let k : item i (bs ++ u) ≡ gap (i + n) = item-kept i bs u (omega arith) (subst (Kept i bs u) (sym e) (λ _ _. inr q)) ∙ e in
    a-gap n {bs = bs ++ u} l (omega (arith, length-append bs u)) k
    (has-tokens-at refl (sym (drop-append-le n bs u m)) (tokens_append q r (has-tokens-at (omega (arith, length-drop n bs)) refl h)))
tokens_append {u = u} q (a-token {i = i} {k = k} {t = t} {bs = bs} l m e a r) h =
    let f : item i (bs ++ u) ≡ token k t = item-kept i bs u (omega arith) (subst (Kept i bs u) (sym e) (inl (inr q))) ∙ e in
    a-token {t = t} {bs = bs ++ u} l (omega (arith, length-append bs u)) f a
    (has-tokens-at refl (sym (drop-append-le (length t) bs u m))
    (tokens_append q r (has-tokens-at (omega (arith, length-drop (length t) bs)) refl h)))

pub line-feed : {i : ℕ} {bs : List ℕ} {ts : List Token} → HasTokens (i + 1) bs ts → HasTokens i (b_line_feed ∷ bs) ts
unfolding item is_blank
line-feed {bs = bs} h = a-gap 1 {bs = b_line_feed ∷ bs} (omega arith) (omega arith) refl h
