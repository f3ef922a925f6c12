-- A loop that reads a list forward by an index: what the definitions say of the rest of a list, said of the index.
use Prim.Native.Nat.{ℕ, suc, ◌+◌, ◌≤◌, ◌<◌}
use native.Mathlib.Numerals.{add-one}
use native.Mathlib.Omega.{arith}
use mathlib.Core.List.{List, [], ◌∷◌}
use mathlib.Core.Bool.{Bool, true, false, ◌&&◌}
use mathlib.Core.Path.{◌≡◌, refl, sym, ◌∙◌}
use lib.ListN.{length, get_or, drop, drop_of_length-le}
use lib.Seq.{drop-cons}
use lib.Dec.{eqb}
use borrow.Author.Tests.{eq-eqb, ne_eqb}
use Rattle.base.specs.Bytes.{same}
use Rattle.lexer.specs.Tokens.{longest_run}

-- the rest of a list from i is its element at i and the rest from i + 1
pub rest : (s : List ℕ) (i : ℕ) → i < length s → drop i s ≡ get_or s i 0 ∷ drop (i + 1) s
rest s i h = rw (add-one, drop-cons s i 0)

pub rest-none : (s : List ℕ) (i : ℕ) → length s ≤ i → drop i s ≡ []
rest-none s i h = drop_of_length-le s h

-- ---- the comparison of two byte strings

-- two strings of one length whose first i bytes are equal
pub record Alike (s t : List ℕ) (i : ℕ) : Type 0 where
  pub within : i ≤ length s
  pub level : length s ≡ length t
  pub left : same s t ≡ same (drop i s) (drop i t)

pub alike-start : {s t : List ℕ} → length s ≡ length t → Alike s t 0
alike-start e = record { within = omega arith; level = e; left = refl }

module _ {s t : List ℕ} {i : ℕ} where
  pub alike-step : i < length s → Alike s t i → same s t ≡ eqb (get_or s i 0) (get_or t i 0) && same (drop (i + 1) s) (drop (i + 1) t)
  alike-step h a = let k : i < length t = omega (arith, a.level) in a.left ∙ rw (rest s i h, rest t i k)

  pub alike-more : i < length s → get_or s i 0 ≡ get_or t i 0 → Alike s t i → Alike s t (i + 1)
  alike-more h e a = record {
    within = omega arith;
    level = a.level;
    left = alike-step h a ∙ rw (eq-eqb (get_or s i 0) (get_or t i 0) e) refl;
  }

  pub alike-not : i < length s → (get_or s i 0 ≡ get_or t i 0 → ⊥) → Alike s t i → false ≡ same s t
  alike-not h n a = sym (alike-step h a ∙ rw (ne_eqb (get_or s i 0) (get_or t i 0) n) refl)

  pub alike_end : length s ≤ i → Alike s t i → true ≡ same s t
  alike_end h a = let k : length t ≤ i = omega (arith, a.level) in sym (a.left ∙ rw (rest-none s i h, rest-none t i k))

-- ---- a run of bytes

-- the bytes from `at` to i are of the run that begins at `at`
pub record Running (p : ℕ → Bool) (s : List ℕ) (at i : ℕ) : Type 0 where
  pub within : i ≤ length s
  pub left : at + length (longest_run p (drop at s)) ≡ i + length (longest_run p (drop i s))

module _ {p : ℕ → Bool} {s : List ℕ} {at i : ℕ} where
  pub running_more : i < length s → p (get_or s i 0) ≡ true → Running p s at i → Running p s at (i + 1)
  unfolding longest_run
  running_more h e r =
      let l : length (longest_run p (drop i s)) ≡ suc (length (longest_run p (drop (i + 1) s))) = rw (rest s i h, e) refl in
      record { within = omega arith; left = omega (arith, r.left) }

  pub running-stop : i < length s → p (get_or s i 0) ≡ false → Running p s at i → i ≡ at + length (longest_run p (drop at s))
  unfolding longest_run
  running-stop h e r =
      let l : length (longest_run p (drop i s)) ≡ 0 = rw (rest s i h, e) refl in
      omega (arith, r.left)

  pub running-end : length s ≤ i → Running p s at i → i ≡ at + length (longest_run p (drop at s))
  unfolding longest_run
  running-end h r =
      let l : length (longest_run p (drop i s)) ≡ 0 = rw (rest-none s i h) refl in
      omega (arith, r.left)
