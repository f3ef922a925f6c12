-- The lexer reads a laid-out text back: its tokens are the lexemes that were laid out, each where it stands.
use Prim.Native.Nat.{ℕ, suc, ◌+◌, ◌≤◌, ◌<◌}
use Rattle.std.specs.Prelude.{◌≡◌, Bool, false, ◌&&◌, ◌||◌, eqb, leb, get_or}
use Rattle.std.proofs.Math.Path.{refl, sym, ap}
use Rattle.std.proofs.Common.{◌∙◌, arith, drop-drop}
use mathlib.Core.List.{List, [], ◌∷◌, ◌++◌, map, append_assoc}
use Rattle.std.proofs.Math.Bool.{true}
use borrow.Author.Tests.{eqb-false, ne_eqb, le-leb, lt-leb, leb-true}
use Rattle.std.proofs.Math.ListN.{length, drop, length-append}
use Rattle.std.proofs.lemmas.List.{length-map}
use Rattle.std.proofs.Math.Seq.{drop-append_seam}
use Rattle.base.specs.All.{All, all_nil, all_cons}
use Rattle.base.specs.Choice.{if◌then◌otherwise◌}
use Rattle.base.specs.Codes.{tokens_most}
use Rattle.base.specs.Outcome.{Outcome, accepted, ◌>>=◌}
use Rattle.base.specs.laws.Lists.{drop-none}
use Rattle.base.specs.laws.Tests.{apart, and-true, if-both}
use Rattle.lexer.specs.Bytes.{b_space, b_tab, b_line_feed, b_carriage_return, b_form_feed, b_slash, b_star, b_ampersand, b_dot}
use Rattle.lexer.specs.Bytes.{is_blank, is_letter, is_digit_lem, is_name_part_lem}
use Rattle.lexer.specs.Kinds.{k_literal, k_fixed_literal, k_semicolon, k_open_brace, k_close_brace, word_kind_lem}
use Rattle.lexer.specs.Tokens.{Token, Item, gap, token, longest_run, begins, numeral, item, exceeds_length, zero_first, not_three, too_large}
use Rattle.lexer.specs.Tokens.{turn, tokens_from, tokens}
use Rattle.lexer.proofs.laws.ItemLaws.{begins-cons, run-stop, kinds-apart, Digits, chosen}
use Rattle.lexer.proofs.laws.LiteralLaws.{digit-range}
use Rattle.acceptance.specs.Tokens.{tokens_at, item-by-item, from-the-left}
use Rattle.printing.specs.Printed.{Lexeme, separator, render}

-- a token's lexeme
abbrev pub lexeme : Token → Lexeme
lexeme t = record { kind = t.kind; text = t.text }

-- the tokens of a text, from position i on
unfoldable pub laid : (i : ℕ) → List Lexeme → List Token
laid i [] = []
laid i (l ∷ ls) = record { kind = l.kind; start = i; text = l.text } ∷ laid (i + length l.text + 1) ls

pub laid-lexemes : (i : ℕ) (ls : List Lexeme) → map lexeme (laid i ls) ≡ ls
unfolding laid
laid-lexemes i [] = refl
laid-lexemes i (l ∷ ls) = ap (λ (r : List Lexeme). l ∷ r) (laid-lexemes (i + length l.text + 1) ls)

-- a lexeme that the lexer takes, before its separator
pub record Taken (l : Lexeme) : Type 0 where
  pub nonempty : 0 < length l.text
  pub reads : (i : ℕ) (r : List ℕ) → item i (l.text ++ separator l.kind ∷ r) ≡ token l.kind l.text
  pub not-long : exceeds_length l.kind l.text ≡ false
  pub no_zero : zero_first l.kind l.text ≡ false
  pub three : not_three l.kind l.text ≡ false
  pub small : too_large l.kind l.text ≡ false

-- ---- separators

-- what holds of a line feed and of a space holds of every separator
pub separated : (P : ℕ → Type 0) → P b_line_feed → P b_space → (k : ℕ) → P (separator k)
unfolding separator
separated P p q k = if-both P (eqb k k_semicolon || eqb k k_open_brace || eqb k k_close_brace) (λ _. b_line_feed) (λ _. b_space) p q

blank-item : (i c : ℕ) (r : List ℕ) → is_blank c ≡ true → item i (c ∷ r) ≡ gap (i + 1)
unfolding item
blank-item i c r e = rw e

-- ---- words and literals before a byte that is no part of them

begins-not : (x y b : ℕ) (r : List ℕ) → eqb y 0 ≡ false → eqb b x ≡ false → begins x y (b ∷ r) ≡ false
begins-not x y b r z e = begins-cons x y b r z ∙ rw (ne_eqb x b (λ q. eqb-false b x e (sym q)))

-- the item that begins with a byte which passes a test that no blank and no slash passes
plain-item : (test : ℕ → Bool) (i b : ℕ) (r : List ℕ) → test b ≡ true → test b_space ≡ false → test b_tab ≡ false → test b_line_feed ≡ false
    → test b_carriage_return ≡ false → test b_form_feed ≡ false → test b_slash ≡ false
    → item i (b ∷ r) ≡ chosen i b r false false false (is_letter b) (is_digit_lem b) (begins b_ampersand b_ampersand (b ∷ r))
unfolding item is_blank
plain-item test i b r e e₁ e₂ e₃ e₄ e₅ e₆ =
    rw (
      kinds-apart test b b_space e e₁,
      kinds-apart test b b_tab e e₂,
      kinds-apart test b b_line_feed e e₃,
      kinds-apart test b b_carriage_return e e₄,
      kinds-apart test b b_form_feed e e₅,
      begins-not b_slash b_slash b r refl (kinds-apart test b b_slash e e₆),
      begins-not b_slash b_star b r refl (kinds-apart test b b_slash e e₆),
    )

letter-part : (b : ℕ) → is_letter b ≡ true → is_name_part_lem b ≡ true
unfolding is_name_part_lem
letter-part b e = rw e

digit-no-letter : (b : ℕ) → is_digit_lem b ≡ true → is_letter b ≡ false
unfolding is_letter
digit-no-letter b e = let h = digit-range b e in rw (lt-leb 65 b (omega (arith, h)), lt-leb 97 b (omega (arith, h)))

module _ (i c : ℕ) (r : List ℕ) where
  pub word-item : (t : List ℕ) → is_name_part_lem c ≡ false → is_letter (get_or t 0 0) ≡ true → All (λ b. is_name_part_lem b ≡ true) t
      → item i (t ++ c ∷ r) ≡ token (word_kind_lem t) t
  unfolding is_letter
  word-item [] n e a = apart (cc)
  word-item (b ∷ bs) n e a =
      plain-item is_letter i b (bs ++ c ∷ r) e refl refl refl refl refl refl
      ∙ rw e (ap (λ (t : List ℕ). token (word_kind_lem t) t) (run-stop is_name_part_lem (b ∷ bs) c r a n))

  -- an item that begins with a digit
  digit-item : (b : ℕ) (bs : List ℕ) → is_digit_lem b ≡ true → item i (b ∷ bs) ≡ numeral (b ∷ bs)
  unfolding is_digit_lem
  digit-item b bs e = plain-item is_digit_lem i b bs e refl refl refl refl refl refl ∙ rw (digit-no-letter b e, e)

numeral-of : (bs whole rest : List ℕ) → longest_run is_digit_lem bs ≡ whole → drop (length whole) bs ≡ rest
    → numeral bs
    ≡ (if eqb (get_or rest 0 0) b_dot && is_digit_lem (get_or rest 1 0)
    then (λ _. token k_fixed_literal (whole ++ b_dot ∷ longest_run is_digit_lem (drop 1 rest))) otherwise λ _. token k_literal whole)
numeral-of bs whole rest e f = rw (e, f)

module _ (i c : ℕ) (r : List ℕ) (no_digit : is_digit_lem c ≡ false) (no-point : eqb c b_dot ≡ false) where
  pub number-item : (t : List ℕ) → 0 < length t → Digits t → item i (t ++ c ∷ r) ≡ token k_literal t
  number-item [] l d = absurd (omega arith)
  number-item (b ∷ bs) l (all_cons e d) =
      let t : List ℕ = b ∷ bs in
      digit-item i c r b (bs ++ c ∷ r) e
      ∙ numeral-of (t ++ c ∷ r) t (c ∷ r) (run-stop is_digit_lem t c r (all_cons e d) no_digit) (drop-append_seam t (c ∷ r))
      ∙ rw no-point refl

  pub fixed-item : (w f : List ℕ) → 0 < length w → 0 < length f → Digits w → Digits f
      → item i ((w ++ b_dot ∷ f) ++ c ∷ r) ≡ token k_fixed_literal (w ++ b_dot ∷ f)
  unfolding is_digit_lem
  fixed-item [] f lw lf dw df = absurd (omega arith)
  fixed-item (b ∷ bs) [] lw lf dw df = absurd (omega arith)
  fixed-item (b ∷ bs) (d ∷ ds) lw lf (all_cons e dw) (all_cons g df) =
      let w : List ℕ = b ∷ bs in
      let f : List ℕ = d ∷ ds in
      let rest : List ℕ = b_dot ∷ f ++ c ∷ r in
      ap (item i) (append_assoc w (b_dot ∷ f) (c ∷ r))
      ∙ digit-item i c r b (bs ++ rest) e
      ∙ numeral-of (w ++ rest) w rest (run-stop is_digit_lem w b_dot (f ++ c ∷ r) (all_cons e dw) refl) (drop-append_seam w rest)
      ∙ rw (g, run-stop is_digit_lem f c r (all_cons g df) no_digit) refl

-- ---- the whole text

module _ (s : List ℕ) where
  -- a token and the blank after it
  past-token : (count i : ℕ) (l : Lexeme) (r : List ℕ) → Taken l → drop i s ≡ l.text ++ separator l.kind ∷ r
      → i + length l.text < length s → count < tokens_most
      → tokens_at s count i
      ≡ (tokens_at s (count + 1) (i + length l.text + 1)
      >>= λ ts. accepted ((record { kind = l.kind; start = i; text = l.text }) ∷ ts))
  unfolding turn is_blank
  past-token count i l r w e h m =
      let c = separator l.kind in
      let j : ℕ = i + length l.text in
      let bl : is_blank c ≡ true = separated (λ (c : ℕ). is_blank c ≡ true) refl refl l.kind in
      let e₁ : drop j s ≡ c ∷ r =
      sym (drop-drop (length l.text) i s) ∙ ap (drop (length l.text)) e ∙ drop-append_seam l.text (c ∷ r) in
      item-by-item s count i
      ∙ rw (
        lt-leb (length s) i (omega arith),
        e,
        w.reads i r,
        ne_eqb count tokens_most (λ z. omega arith),
        w.not-long,
        w.no_zero,
        w.three,
        w.small,
        item-by-item s (count + 1) j,
        lt-leb (length s) j h,
        e₁,
        blank-item j c r bl,
      )

  lexed-from : (count i : ℕ) {ls : List Lexeme} → All Taken ls → drop i s ≡ render ls → i + length (render ls) ≡ length s
      → count + length ls ≤ tokens_most → tokens_at s count i ≡ accepted (laid i ls)
  unfolding render laid
  lexed-from count i all_nil e q m = item-by-item s count i ∙ rw (le-leb (length s) i (omega arith))
  lexed-from count i (all_cons {x = l} {l = ls} w ws) e q m =
      let c = separator l.kind in
      let a = length-append l.text (c ∷ render ls) in
      let j : ℕ = i + length l.text in
      let e₁ : drop (j + 1) s ≡ render ls =
      sym (drop-drop 1 j s)
      ∙ ap (drop 1) (sym (drop-drop (length l.text) i s) ∙ ap (drop (length l.text)) e ∙ drop-append_seam l.text (c ∷ render ls))
      ∙ sym (drop-none (render ls)) in
      past-token count i l (render ls) w e (omega arith) (omega arith)
      ∙ ap (λ (o : Outcome (List Token)). o >>= λ ts. accepted ((record { kind = l.kind; start = i; text = l.text }) ∷ ts))
      (lexed-from (count + 1) (j + 1) ws e₁ (omega arith) (omega arith))

-- A text laid out from at most 2,048 lexemes is read as these, each where it stands.
pub lexed : (ls : List Lexeme) → All Taken ls → length ls ≤ tokens_most → tokens (render ls) ≡ accepted (laid 0 ls)
lexed ls w m =
    from-the-left (render ls) ∙ lexed-from (render ls) 0 0 w (sym (drop-none (render ls))) (omega arith) (omega arith)
