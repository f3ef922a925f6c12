-- What begins at a position depends on the bytes of the item and on those behind it: a literal on two, since a point and a digit go on
-- with it, the others on one. So it stays where bytes are put behind, if they begin with a line feed or enough bytes are left.
use Rattle.std.specs.Prelude.{ℕ, suc, ◌+◌, ◌-◌, ◌<◌, ◌≢◌, ◌⊎◌, Bool, ◌&&◌, ◌≡◌, get_or, drop, eqb}
use native.Mathlib.Omega.{arith}
use mathlib.Core.List.{List, [], ◌∷◌, ◌++◌}
use Rattle.std.proofs.Math.Logic.{inl, inr}
use Rattle.std.proofs.Math.Bool.{true, false, not}
use Rattle.std.proofs.lemmas.Bool.{false≢true, eqb-false, not-true}
use Rattle.std.proofs.Math.Option.{Option, none, some}
use Rattle.std.proofs.Math.Path.{refl, ap}
use Rattle.std.proofs.Common.{sym, ◌∙◌, subst, eqb-true, ne_eqb}
use Rattle.std.proofs.Math.ListN.{length, length-drop, length-append}
use Rattle.std.proofs.lemmas.List.{drop-append-le}
use Rattle.base.specs.Bytes.{same}
use Rattle.base.specs.Choice.{if◌then◌otherwise◌}
use Rattle.base.specs.laws.Tests.{apart, and-true, and-false, if-both}
use Rattle.lexer.specs.Bytes.{b_line_feed, b_slash, b_star, b_ampersand, b_dot, is_blank, is_letter, is_digit_lem, is_name_part_lem}
use Rattle.lexer.specs.Kinds.{Word, words, k_literal, k_fixed_literal, k_close_brace, kind_in, word_kind_lem, mark_kind_lem}
use Rattle.lexer.specs.Tokens.{Item, gap, unclosed, nothing, token, longest_run, begins, closing, comment, numeral, item}
use Rattle.lexer.proofs.laws.ItemLaws.{chosen, run_short}
use Rattle.appended.specs.Behind.{NewLine, Settled}

-- n bytes of bs, then u: some are left, or u is a new line
abbrev Room : ℕ → List ℕ → List ℕ → Type 0
Room n bs u = (n < length bs) ⊎ NewLine u

-- RUNS

run-nothing : (p : ℕ → Bool) → p b_line_feed ≡ false → (u : List ℕ) → NewLine u → longest_run p u ≡ []
unfolding longest_run
run-nothing p n [] e = refl
run-nothing p n (b ∷ u) e = rw (e, n)

run-kept : (p : ℕ → Bool) → p b_line_feed ≡ false → (bs u : List ℕ) → Room (length (longest_run p bs)) bs u
    → longest_run p (bs ++ u) ≡ longest_run p bs
unfolding longest_run
run-kept p n [] u (inl h) = absurd (omega arith)
run-kept p n [] u (inr e) = run-nothing p n u e
run-kept p n (b ∷ bs) u h = go (p b) h (run-kept p n bs u)
  where
    less : Room (suc (length (longest_run p bs))) (b ∷ bs) u → Room (length (longest_run p bs)) bs u
    less (inl h) = inl (omega arith)
    less (inr e) = inr e

    go : (c : Bool) → Room (length (if c then (λ _. b ∷ longest_run p bs) otherwise λ _. [])) (b ∷ bs) u
        → (Room (length (longest_run p bs)) bs u → longest_run p (bs ++ u) ≡ longest_run p bs)
        → (if c then (λ _. b ∷ longest_run p (bs ++ u)) otherwise λ _. []) ≡ (if c then (λ _. b ∷ longest_run p bs) otherwise λ _. [])
    go true h f = ap (λ (l : List ℕ). b ∷ l) (f (less h))
    go false h f = refl

-- COMMENTS

-- what an answer of `closing` says of its parts, at three tests
pub closed-by : (x y z : Bool) (o p q o' p' q' : Unit {0} → Option ℕ) (m : ℕ) {j : ℕ}
    → (o tt ≡ some j → o' tt ≡ some j) → (p tt ≡ some j → p' tt ≡ some j) → (q tt ≡ some j → q' tt ≡ some j)
    → (if x then o otherwise λ _. if y then (λ _. if z then (λ _. some m) otherwise p) otherwise q) ≡ some j
    → (if x then o' otherwise λ _. if y then (λ _. if z then (λ _. some m) otherwise p') otherwise q') ≡ some j
closed-by true y z o p q o' p' q' m f g h e = f e
closed-by false true true o p q o' p' q' m f g h e = e
closed-by false true false o p q o' p' q' m f g h e = g e
closed-by false false z o p q o' p' q' m f g h e = h e

closing-kept : (d i : ℕ) (bs u : List ℕ) {j : ℕ} → closing d i bs ≡ some j → closing d i (bs ++ u) ≡ some j
unfolding closing
closing-kept d i [] u e = apart (cc)
closing-kept d i (a ∷ []) u e = apart (cc)
closing-kept d i (a ∷ b ∷ bs) u e =
    closed-by (eqb a b_slash && eqb b b_star) (eqb a b_star && eqb b b_slash) (eqb d 1) _ _ _ _ _ _ (i + 2)
    (closing-kept (d + 1) (i + 2) bs u) (closing-kept (d - 1) (i + 2) bs u) (closing-kept d (i + 1) (b ∷ bs) u) e

-- LITERALS

-- bytes that go on with a literal: a point and a digit
abbrev pub going_on : List ℕ → Bool
going_on rest = eqb (get_or rest 0 0) b_dot && is_digit_lem (get_or rest 1 0)

abbrev pub literal_item : Bool → (whole rest : List ℕ) → Item
literal_item b whole rest =
    if b then (λ _. token k_fixed_literal (whole ++ b_dot ∷ longest_run is_digit_lem (drop 1 rest))) otherwise λ _. token k_literal whole

-- whether a literal goes on is decided by the bytes left, if these are settled
goes-on-kept : (rest u : List ℕ) → Settled rest u → going_on (rest ++ u) ≡ going_on rest
unfolding is_digit_lem
goes-on-kept [] u (inl h) = absurd (omega (arith, h.0))
goes-on-kept [] [] (inr e) = refl
goes-on-kept [] (b ∷ u) (inr e) = rw e
goes-on-kept (c ∷ []) u (inl h) = rw (ne_eqb c b_dot (h.1 refl))
goes-on-kept (c ∷ []) [] (inr e) = refl
goes-on-kept (c ∷ []) (b ∷ u) (inr e) = rw e
goes-on-kept (c ∷ d ∷ rest) u h = refl

two-more : (rest : List ℕ) → going_on rest ≡ true → 1 < length rest
unfolding is_digit_lem
two-more [] e = apart (cc)
two-more (c ∷ []) e = absurd (false≢true (sym (and-false (eqb c b_dot)) ∙ e))
two-more (c ∷ d ∷ rest) e = omega arith

pub numeral-is : (whole rest bs : List ℕ) → longest_run is_digit_lem bs ≡ whole → drop (length whole) bs ≡ rest
    → numeral bs ≡ literal_item (going_on rest) whole rest
numeral-is whole rest bs e f =
    (λ j. literal_item (going_on (drop (length (e j)) bs)) (e j) (drop (length (e j)) bs))
    ∙ ap (λ (r : List ℕ). literal_item (going_on r) whole r) f

-- ITEMS

-- an item that is there whatever is put behind: what is left is settled, or it is a brace
abbrev pub Kept : (i : ℕ) → List ℕ → List ℕ → Item → Type 0
Kept i bs u (gap j) = (n : ℕ) → j ≡ i + n → (n < length bs) ⊎ NewLine u
Kept i bs u unclosed = ⊥
Kept i bs u nothing = ⊥
Kept i bs u (token k t) = Settled (drop (length t) bs) u ⊎ (k ≡ k_close_brace)

room_of : (n : ℕ) (bs u : List ℕ) → Settled (drop n bs) u → Room n bs u
room_of n bs u (inl h) = inl (omega (arith, h.0, length-drop n bs))
room_of n bs u (inr e) = inr e

module _ (i : ℕ) (bs u : List ℕ) where
  whole : List ℕ
  whole = longest_run is_digit_lem bs

  rest : List ℕ
  rest = drop (length whole) bs

  behind-kept : Room (length whole) bs u → numeral (bs ++ u) ≡ literal_item (going_on (rest ++ u)) whole (rest ++ u)
  unfolding is_digit_lem whole rest
  behind-kept r =
      numeral-is whole (rest ++ u) (bs ++ u) (run-kept is_digit_lem refl bs u r) (drop-append-le (length whole) bs u (run_short is_digit_lem bs))

  numeral-kept : (b : Bool) → going_on rest ≡ b → Kept i bs u (literal_item b whole rest) → numeral (bs ++ u) ≡ literal_item b whole rest
  unfolding is_digit_lem whole rest
  numeral-kept true e (inl h) =
      let two = two-more rest e in
      let fraction = longest_run is_digit_lem (drop 1 rest) in
      let room : Room (length fraction) (drop 1 rest) u = less (room_of (length (whole ++ b_dot ∷ fraction)) bs u h) in
      behind-kept (inl (omega (arith, two, length-drop (length whole) bs)))
      ∙ ap (λ (c : Bool). literal_item c whole (rest ++ u)) (goes-on-kept rest u (inl (omega arith, λ q. absurd (omega arith))) ∙ e)
      ∙ ap (λ (l : List ℕ). token k_fixed_literal (whole ++ b_dot ∷ l))
      (ap (longest_run is_digit_lem) (drop-append-le 1 rest u (omega arith)) ∙ run-kept is_digit_lem refl (drop 1 rest) u room)
    where
      less : Room (length (whole ++ b_dot ∷ longest_run is_digit_lem (drop 1 rest))) bs u
          → Room (length (longest_run is_digit_lem (drop 1 rest))) (drop 1 rest) u
      less (inl h) =
          inl (omega (
            arith,
            length-append whole (b_dot ∷ longest_run is_digit_lem (drop 1 rest)),
            length-drop (length whole) bs,
            length-drop 1 rest,
          ))
      less (inr e) = inr e
  numeral-kept true e (inr k) = absurd (omega (arith, k))
  numeral-kept false e (inl h) =
      behind-kept (room_of (length whole) bs u h) ∙ ap (λ (c : Bool). literal_item c whole (rest ++ u)) (goes-on-kept rest u h ∙ e)
  numeral-kept false e (inr k) = absurd (omega (arith, k))

-- no word is a brace
abbrev no_brace : List Word → Bool
no_brace [] = true
no_brace (w ∷ ws) = not (eqb w.kind k_close_brace) && no_brace ws

kind-no-brace : (ws : List Word) (t : List ℕ) → no_brace ws ≡ true → eqb (kind_in ws t) k_close_brace ≡ false
kind-no-brace [] t e = refl
kind-no-brace (w ∷ ws) t e =
    let q = and-true (not (eqb w.kind k_close_brace)) (no_brace ws) e in
    if-both (λ k. eqb k k_close_brace ≡ false) (same w.text t) (λ _. w.kind) (λ _. kind_in ws t)
    (not-true (eqb w.kind k_close_brace) q.0) (kind-no-brace ws t q.1)

pub word-no-brace : (t : List ℕ) → word_kind_lem t ≢ k_close_brace
unfolding word_kind_lem words
word-no-brace t = eqb-false (word_kind_lem t) k_close_brace (kind-no-brace words t refl)

module _ (i b : ℕ) (r u : List ℕ) where
  kept-comment : (o : Option ℕ) → closing 1 (i + 2) (drop 1 r) ≡ o → Kept i (b ∷ r) u (comment o)
      → comment (closing 1 (i + 2) (drop 1 (r ++ u))) ≡ comment o
  unfolding closing
  kept-comment none e h = absurd h
  kept-comment (some j) e h = ap comment (inside r e)
    where
      inside : (r : List ℕ) → closing 1 (i + 2) (drop 1 r) ≡ some j → closing 1 (i + 2) (drop 1 (r ++ u)) ≡ some j
      inside [] e = apart (cc)
      inside (c ∷ r) e = closing-kept 1 (i + 2) r u e

  word_room : (t : List ℕ) → Settled (drop (length t) (b ∷ r)) u ⊎ (word_kind_lem t ≡ k_close_brace) → Room (length t) (b ∷ r) u
  word_room t (inl h) = room_of (length t) (b ∷ r) u h
  word_room t (inr e) = absurd (word-no-brace t e)

  kept-chosen : (x₁ x₂ x₃ x₄ x₅ x₆ : Bool) → Kept i (b ∷ r) u (chosen i b r x₁ x₂ x₃ x₄ x₅ x₆)
      → chosen i b (r ++ u) x₁ x₂ x₃ x₄ x₅ x₆ ≡ chosen i b r x₁ x₂ x₃ x₄ x₅ x₆
  unfolding is_name_part_lem is_letter is_digit_lem whole rest
  kept-chosen true x₂ x₃ x₄ x₅ x₆ h = refl
  kept-chosen false true x₃ x₄ x₅ x₆ h =
      ap (λ (l : List ℕ). gap (i + length l)) (run-kept (λ c. not (eqb c b_line_feed)) refl (b ∷ r) u (h _ refl))
  kept-chosen false false true x₄ x₅ x₆ h = kept-comment (closing 1 (i + 2) (drop 1 r)) refl h
  kept-chosen false false false true x₅ x₆ h =
      ap (λ (l : List ℕ). token (word_kind_lem l) l) (run-kept is_name_part_lem refl (b ∷ r) u (word_room (longest_run is_name_part_lem (b ∷ r)) h))
  kept-chosen false false false false true x₆ h = numeral-kept i (b ∷ r) u (going_on (rest i (b ∷ r) u)) refl h
  kept-chosen false false false false false true h = refl
  kept-chosen false false false false false false h = refl

-- one byte alone that begins no comment and no `&&`
begins-not : (x y b : ℕ) (u : List ℕ) → eqb x b ≡ false → begins x y (b ∷ u) ≡ false
begins-not x y b [] e = refl
begins-not x y b (c ∷ u) e = rw e

not-slash : (i b : ℕ) (u : List ℕ) → Kept i (b ∷ []) u (item i (b ∷ [])) → (c : Bool) → eqb b_slash b ≡ c → eqb b_slash b ≡ false
unfolding item is_blank is_letter is_digit_lem mark_kind_lem
not-slash i b u h true e = absurd (subst (λ (x : ℕ). Kept i (x ∷ []) u (item i (x ∷ []))) (sym (eqb-true b_slash b e)) h)
not-slash i b u h false e = e

not-and : (i b : ℕ) (u : List ℕ) → Kept i (b ∷ []) u (item i (b ∷ [])) → (c : Bool) → eqb b_ampersand b ≡ c → eqb b_ampersand b ≡ false
unfolding item is_blank is_letter is_digit_lem mark_kind_lem
not-and i b u h true e = absurd (subst (λ (x : ℕ). Kept i (x ∷ []) u (item i (x ∷ []))) (sym (eqb-true b_ampersand b e)) h)
not-and i b u h false e = e

pub item-kept : (i : ℕ) (bs u : List ℕ) → 0 < length bs → Kept i bs u (item i bs) → item i (bs ++ u) ≡ item i bs
unfolding item
item-kept i [] u l h = absurd (omega arith)
item-kept i (b ∷ []) u l h =
    let s = not-slash i b u h (eqb b_slash b) refl in
    let a = not-and i b u h (eqb b_ampersand b) refl in
    rw (begins-not b_slash b_slash b u s, begins-not b_slash b_star b u s, begins-not b_ampersand b_ampersand b u a)
    (kept-chosen i b [] u (is_blank b) false false (is_letter b) (is_digit_lem b) false h)
item-kept i (b ∷ c ∷ r) u l h =
    kept-chosen i b (c ∷ r) u (is_blank b) (eqb b_slash b && eqb b_slash c) (eqb b_slash b && eqb b_star c) (is_letter b) (is_digit_lem b)
    (eqb b_ampersand b && eqb b_ampersand c) h
