-- A block comment read by positions: what is left to read from a position, and the depth there, decide where the comment ends.
use Prim.Native.Nat.{ℕ, ◌+◌, ◌-◌, ◌≤◌, ◌<◌}
use native.Mathlib.Nat.{add_assoc}
use native.Mathlib.Omega.{arith}
use mathlib.Core.List.{List, [], ◌∷◌}
use mathlib.Core.Bool.{Bool, true, false, ◌&&◌}
use mathlib.Core.Option.{Option, none, some}
use mathlib.Core.Path.{◌≡◌, refl, sym, ap, ◌∙◌}
use lib.ListN.{length, get_or, drop, length-drop}
use lib.Dec.{eqb}
use borrow.Author.Tests.{eq-eqb, ne_eqb}
use Rattle.base.specs.Choice.{if◌then◌otherwise◌}
use Rattle.lexer.specs.Bytes.{b_slash, b_star}
use Rattle.lexer.specs.Tokens.{closing}
use Rattle.lexer.specs.promises.Scan.{delimiter_of_lem, closing_of}
use Rattle.lexer.specs.declared.scan.Delimiter.{Delimiter}
use Rattle.lexer.specs.declared.scan.Delimiter.TheVariants.{Open, Close, Other}
use Rattle.std.specs.Prelude.{Some, None}
use Rattle.lexer.proofs.Runs.{rest}

pub rest-two : (s : List ℕ) (i : ℕ) → i + 1 < length s → drop i s ≡ get_or s i 0 ∷ get_or s (i + 1) 0 ∷ drop (i + 2) s
rest-two s i h =
    let k : i < length s = omega arith in
    rest s i k ∙ ap (λ (l : List ℕ). get_or s i 0 ∷ l) (rest s (i + 1) h ∙ ap (λ (n : ℕ). get_or s (i + 1) 0 ∷ drop n s) (add_assoc i 1 1))

-- where a comment of depth d ends, after two bytes at i, of which b is the second, and the rest r
abbrev after : Delimiter → (d i b : ℕ) → List ℕ → Option ℕ
after Open d i b r = closing (d + 1) (i + 2) r
after Close d i b r = if eqb d 1 then (λ _. some (i + 2)) otherwise λ _. closing (d - 1) (i + 2) r
after Other d i b r = closing d (i + 1) (b ∷ r)

closing-two : (d i a b : ℕ) (r : List ℕ) → closing d i (a ∷ b ∷ r) ≡ after (delimiter_of_lem a b) d i b r
unfolding closing
closing-two d i a b r = go (eqb a b_slash && eqb b b_star) (eqb a b_star && eqb b b_slash)
  where
    go : (x y : Bool)
        → (if x then (λ _. closing (d + 1) (i + 2) r) otherwise λ _.
        if y then (λ _. if eqb d 1 then (λ _. some (i + 2)) otherwise λ _. closing (d - 1) (i + 2) r) otherwise λ _. closing d (i + 1) (b ∷ r))
        ≡ after (if x then (λ _. Open) otherwise λ _. if y then (λ _. Close) otherwise λ _. Other) d i b r
    go true y = refl
    go false true = refl
    go false false = refl

-- the comment whose text begins at `at` has depth d at i
pub record Commented (s : List ℕ) (at d i : ℕ) : Type 0 where
  pub within : i ≤ length s
  pub deep : 0 < d
  pub shallow : d ≤ i + 1
  pub left : closing 1 at (drop at s) ≡ closing d i (drop i s)

pub commented-start : {s : List ℕ} {at : ℕ} → at ≤ length s → Commented s at 1 at
commented-start h = record { within = h; deep = omega arith; shallow = omega arith; left = refl }

module _ {s : List ℕ} {at d i : ℕ} (h : i + 1 < length s) (c : Commented s at d i) where
  step : {k : Delimiter} → k ≡ delimiter_of_lem (get_or s i 0) (get_or s (i + 1) 0)
      → closing 1 at (drop at s) ≡ after k d i (get_or s (i + 1) 0) (drop (i + 2) s)
  step e = c.left ∙ rw (rest-two s i h, e) (closing-two d i (get_or s i 0) (get_or s (i + 1) 0) (drop (i + 2) s))

  pub commented-open : {k : Delimiter} → k ≡ delimiter_of_lem (get_or s i 0) (get_or s (i + 1) 0) → k ≡ Open → Commented s at (d + 1) (i + 2)
  commented-open e o =
      let l = c.shallow in
      record { within = omega arith; deep = omega arith; shallow = omega arith; left = step (sym o ∙ e) }

  pub commented-close : {k : Delimiter} → k ≡ delimiter_of_lem (get_or s i 0) (get_or s (i + 1) 0) → k ≡ Close → (d ≡ 1 → ⊥)
      → Commented s at (d - 1) (i + 2)
  commented-close e o n =
      let l = c.shallow in
      let p = c.deep in
      record { within = omega arith; deep = omega arith; shallow = omega arith; left = step (sym o ∙ e) ∙ rw (ne_eqb d 1 n) refl }

  pub commented-closed : {k : Delimiter} → k ≡ delimiter_of_lem (get_or s i 0) (get_or s (i + 1) 0) → k ≡ Close → d ≡ 1
      → Some (i + 2) ≡ closing_of (closing 1 at (drop at s))
  commented-closed e o n =
      let l : closing 1 at (drop at s) ≡ some (i + 2) = step (sym o ∙ e) ∙ rw (eq-eqb d 1 n) refl in
      sym (ap closing_of l)

  pub commented-other : {k : Delimiter} → k ≡ delimiter_of_lem (get_or s i 0) (get_or s (i + 1) 0) → k ≡ Other → Commented s at d (i + 1)
  commented-other e o =
      let l = c.shallow in
      let p = c.deep in
      record {
        within = omega arith;
        deep = omega arith;
        shallow = omega arith;
        left =
            step (sym o ∙ e)
            ∙ ap (λ (n : ℕ). closing d (i + 1) (get_or s (i + 1) 0 ∷ drop n s)) (sym (add_assoc i 1 1))
            ∙ ap (closing d (i + 1)) (sym (rest s (i + 1) h));
      }

pub commented-end : {s : List ℕ} {at d i : ℕ} → length s ≤ i + 1 → Commented s at d i → None ≡ closing_of (closing 1 at (drop at s))
unfolding closing
commented-end {s} {at} {d} {i} h c = sym (ap closing_of (c.left ∙ short (drop i s) (omega (arith, length-drop i s))))
  where
    short : (l : List ℕ) → length l ≤ 1 → closing d i l ≡ none
    short [] k = refl
    short (a ∷ []) k = refl
    short (a ∷ b ∷ l) k = absurd (omega arith)
