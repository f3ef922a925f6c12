-- Turns that read on alike give the same tokens. A turn reads on only past a byte or more, since a gap ends past its beginning and a
-- token's text is not empty; so it is enough that what is read on is alike from the next byte on.
use Rattle.std.specs.Prelude.{ℕ, zero, suc, ◌+◌, ◌≤◌, ◌<◌, ◌≡◌, List, [], ◌∷◌, Bool, true, false, drop, eqb, leb}
use Rattle.std.proofs.Math.Path.{refl, ap}
use Rattle.std.proofs.Common.{sym, arith, leb-false, le-leb}
use Rattle.std.proofs.Math.ListN.{length}
use Rattle.base.specs.Choice.{if◌then◌otherwise◌}
use Rattle.base.specs.Codes.{tokens_most, name_too_long, leading_zero, not_three_digits, literal_too_large, too_many_tokens}
use Rattle.base.specs.Outcome.{Outcome, accepted, refused, ◌>>=◌}
use Rattle.lexer.specs.Tokens.{Token, Item, gap, unclosed, nothing, token, item, exceeds_length, zero_first, not_three, too_large, turn, tokens_from}
use Rattle.lexer.proofs.laws.ItemLaws.{Good, good}

-- what is read on after a token, by the answers of the tests
abbrev judged : (tooMany long zeroes digits large : Bool) (i : ℕ) → Token → Outcome (List Token) → Outcome (List Token)
judged tooMany long zeroes digits large i t rest =
    if tooMany then (λ _. refused too_many_tokens i) otherwise λ _.
    if long then (λ _. refused name_too_long i) otherwise λ _.
    if zeroes then (λ _. refused leading_zero i) otherwise λ _.
    if digits then (λ _. refused not_three_digits i) otherwise λ _.
    if large then (λ _. refused literal_too_large i) otherwise λ _.
    rest >>= λ ts. accepted (t ∷ ts)

module _ (next next' : ℕ → ℕ → Outcome (List Token)) (count i : ℕ) (alike : (c j : ℕ) → i < j → next c j ≡ next' c j) where
  pub same_turn : (bs : List ℕ) (x : Item) → Good i bs x → turn next count i x ≡ turn next' count i x
  unfolding turn
  same_turn bs (gap j) g = alike count j g.0
  same_turn bs unclosed g = refl
  same_turn bs nothing g = refl
  same_turn bs (token k t) g =
      let new : Token = record { kind = k; start = i; text = t } in
      ap (judged (eqb count tokens_most) (exceeds_length k t) (zero_first k t) (not_three k t) (too_large k t) i new)
      (alike (count + 1) (i + length t) (omega (arith, g.nonempty)))

-- past the last byte there are no tokens, with any fuel
past_end : (f : ℕ) (s : List ℕ) (count i : ℕ) → length s ≤ i → tokens_from f s count i ≡ accepted []
unfolding tokens_from
past_end zero s count i h = refl
past_end (suc f) s count i h = rw (le-leb (length s) i h) refl

-- any two fuels that are no smaller than the number of bytes left
pub any_fuel : (f g : ℕ) (s : List ℕ) (count i : ℕ) → length s ≤ i + f → length s ≤ i + g → tokens_from f s count i ≡ tokens_from g s count i
unfolding tokens_from
any_fuel zero g s count i h k = sym (past_end g s count i (omega arith))
any_fuel (suc f) zero s count i h k = past_end (suc f) s count i (omega arith)
any_fuel (suc f) (suc g) s count i h k = by (leb (length s) i) refl (λ c j l. any_fuel f g s c j (omega arith) (omega arith))
  where
    by : (b : Bool) → leb (length s) i ≡ b → ((c j : ℕ) → i < j → tokens_from f s c j ≡ tokens_from g s c j)
        → (if b then (λ _. accepted []) otherwise λ _. turn (λ c j. tokens_from f s c j) count i (item i (drop i s)))
        ≡ (if b then (λ _. accepted []) otherwise λ _. turn (λ c j. tokens_from g s c j) count i (item i (drop i s)))
    by true e alike = refl
    by false e alike =
        same_turn (λ c j. tokens_from f s c j) (λ c j. tokens_from g s c j) count i alike
        (drop i s) (item i (drop i s)) (good s i (leb-false (length s) i e))
