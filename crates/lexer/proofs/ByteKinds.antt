-- The tests of the definition by the kind of a byte: each is a look at the kind.
use Prim.Native.Nat.{ℕ, ◌≤◌, ◌<◌}
use native.Mathlib.Omega.{arith}
use mathlib.Core.Logic.{◌≢◌, inl, inr}
use mathlib.Core.Bool.{Bool, true, false, ◌&&◌, not, true≢false}
use mathlib.Core.Path.{◌≡◌, refl, sym, ◌∙◌}
use lib.Dec.{eqb, leb}
use borrow.Author.Tests.{leb-true, lt-leb, eq-eqb, ne_eqb, eqb-true, eqb-false, not-false}
use Rattle.base.specs.Choice.{if◌then◌otherwise◌}
use Rattle.base.specs.laws.Tests.{and-true, and-false, or-either, or-neither}
use Rattle.lexer.specs.Bytes.{b_space, b_tab, b_line_feed, b_carriage_return, b_form_feed, b_capital_a, b_capital_z, b_small_a, b_small_z, b_zero}
use Rattle.lexer.specs.Bytes.{b_nine, b_underscore, b_slash, b_ampersand, is_blank, is_letter, is_digit_lem, is_name_part_lem}
use Rattle.lexer.specs.Kinds.{mark_kind_lem, k_end}
use Rattle.lexer.specs.ByteKinds.{b_letter, b_digit, b_blank, b_mark, b_other, is_mark, byte_kind}
use Rattle.lexer.proofs.laws.LiteralLaws.{digit-range}

-- ---- a letter, a digit and a blank are different bytes

letter-high : (b : ℕ) → is_letter b ≡ true → b_capital_a ≤ b
unfolding is_letter
letter-high b e = elim (or-either (leb b_capital_a b && leb b b_capital_z) (leb b_small_a b && leb b b_small_z) e) [
  | inl q ↦ leb-true b_capital_a b (and-true (leb b_capital_a b) (leb b b_capital_z) q).0
  | inr q ↦ let h = leb-true b_small_a b (and-true (leb b_small_a b) (leb b b_small_z) q).0 in omega arith
]

not_digit : (b : ℕ) → b_capital_a ≤ b → is_digit_lem b ≡ false
unfolding is_digit_lem
not_digit b h = let k : b_nine < b = omega arith in rw (lt-leb b b_nine k) (and-false (leb b_zero b))

not-blank : (b : ℕ) → b_zero ≤ b → is_blank b ≡ false
unfolding is_blank
not-blank b h =
    simp (
      low b_space (omega arith),
      low b_tab (omega arith),
      low b_line_feed (omega arith),
      low b_carriage_return (omega arith),
      low b_form_feed (omega arith),
    )
  where
    low : (n : ℕ) → n < b_zero → eqb b n ≡ false
    low n l = ne_eqb b n (λ e. omega arith)

-- ---- the tests by the kind

-- each answer is a look at the kind k; a mark is looked for last
record Looks (k : ℕ) (letter digit blank mark : Bool) : Type 0 where
  letter-is : letter ≡ eqb k b_letter
  digit-is : digit ≡ eqb k b_digit
  blank-is : blank ≡ eqb k b_blank
  mark-is : letter ≡ false → digit ≡ false → blank ≡ false → mark ≡ eqb k b_mark

abbrev kind_by : (letter digit blank mark : Bool) → ℕ
kind_by letter digit blank mark =
    if letter then (λ _. b_letter) otherwise λ _.
    if digit then (λ _. b_digit) otherwise λ _.
    if blank then (λ _. b_blank) otherwise λ _.
    if mark then (λ _. b_mark) otherwise λ _. b_other

looks : (l d w m : Bool) → (l ≡ true → (d ≡ false) × (w ≡ false)) → (d ≡ true → w ≡ false) → Looks (kind_by l d w m) l d w m
looks true d w m f g = record { letter-is = refl; digit-is = (f refl).0; blank-is = (f refl).1; mark-is = λ e _ _. absurd (true≢false e) }
looks false true w m f g = record { letter-is = refl; digit-is = refl; blank-is = g refl; mark-is = λ _ e _. absurd (true≢false e) }
looks false false true m f g = record { letter-is = refl; digit-is = refl; blank-is = refl; mark-is = λ _ _ e. absurd (true≢false e) }
looks false false false true f g = record { letter-is = refl; digit-is = refl; blank-is = refl; mark-is = λ _ _ _. refl }
looks false false false false f g = record { letter-is = refl; digit-is = refl; blank-is = refl; mark-is = λ _ _ _. refl }

module _ (b : ℕ) where
  looked : Looks (byte_kind b) (is_letter b) (is_digit_lem b) (is_blank b) (is_mark b)
  unfolding byte_kind
  looked =
      looks (is_letter b) (is_digit_lem b) (is_blank b) (is_mark b)
      (λ e. let h = letter-high b e in (not_digit b h, not-blank b (omega arith)))
      (λ e. not-blank b (digit-range b e).0)

  pub letter-by-kind : is_letter b ≡ eqb (byte_kind b) b_letter
  letter-by-kind = looked.letter-is

  pub digit-by-kind : is_digit_lem b ≡ eqb (byte_kind b) b_digit
  digit-by-kind = looked.digit-is

  pub blank-by-kind : is_blank b ≡ eqb (byte_kind b) b_blank
  blank-by-kind = looked.blank-is

  pub mark-by-kind : is_letter b ≡ false → is_digit_lem b ≡ false → is_blank b ≡ false → is_mark b ≡ eqb (byte_kind b) b_mark
  mark-by-kind p q r = looked.mark-is p q r

  -- the kinds from a digit's on are those of digits, letters and marks
  pub kind-mark : b_digit ≤ byte_kind b → byte_kind b ≢ b_letter → byte_kind b ≢ b_digit → byte_kind b ≡ b_mark
  unfolding byte_kind
  kind-mark = go (is_letter b) (is_digit_lem b) (is_blank b) (is_mark b)
    where
      go : (l d w m : Bool) → b_digit ≤ kind_by l d w m → kind_by l d w m ≢ b_letter → kind_by l d w m ≢ b_digit → kind_by l d w m ≡ b_mark
      go true d w m h p q = absurd (p refl)
      go false true w m h p q = absurd (q refl)
      go false false true m h p q = absurd (omega arith)
      go false false false true h p q = refl
      go false false false false h p q = absurd (omega arith)

  -- ---- of a mark and of no mark

  pub mark-token : is_mark b ≡ true → b ≢ b_ampersand → mark_kind_lem b ≢ k_end
  unfolding is_mark
  mark-token e n z =
      let q : is_mark b ≡ false = rw (ne_eqb b b_ampersand n, eq-eqb (mark_kind_lem b) k_end z) refl in
      true≢false (sym e ∙ q)

  pub no-mark : is_mark b ≡ false → (b ≢ b_ampersand) × (mark_kind_lem b ≡ k_end)
  unfolding is_mark
  no-mark e =
      let q = or-neither (eqb b b_ampersand) (not (eqb (mark_kind_lem b) k_end)) e in
      (eqb-false b b_ampersand q.0, eqb-true (mark_kind_lem b) k_end (not-false (eqb (mark_kind_lem b) k_end) q.1))

-- ---- what may stand in a name, where the kind is k

module _ (b : ℕ) {k : ℕ} (e : k ≡ byte_kind b) where
  pub name-letter : k ≡ b_letter → true ≡ is_name_part_lem b
  unfolding is_name_part_lem
  name-letter p = rw (letter-by-kind b, sym e ∙ p)

  pub name-digit : k ≢ b_letter → k ≡ b_digit → true ≡ is_name_part_lem b
  unfolding is_name_part_lem
  name-digit n p = rw (letter-by-kind b, digit-by-kind b, sym e ∙ p)

  pub name-other : k ≢ b_letter → k ≢ b_digit → eqb b b_underscore ≡ is_name_part_lem b
  unfolding is_name_part_lem
  name-other n m = rw (letter-by-kind b, digit-by-kind b, ← e, ne_eqb k b_letter n, ne_eqb k b_digit m)

-- the slash is no letter, digit, blank or mark
pub slash-kind : byte_kind b_slash ≡ b_other
unfolding byte_kind is_letter is_digit_lem is_blank is_mark mark_kind_lem
slash-kind = refl
