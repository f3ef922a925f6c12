-- The reserved words by length: a text can only be equal to a word of its own length, so the words of that length alone decide its kind.
use Rattle.std.specs.Prelude.{ℕ, ◌≤◌, List, [], ◌∷◌, ◌≢◌, Bool, true, false, ◌&&◌, ◌≡◌, refl, length, eqb, leb}
use Rattle.std.proofs.Common.{arith, leb-true}
use Rattle.std.proofs.lemmas.Bool.{eqb-false}
use Rattle.base.specs.Choice.{if◌then◌otherwise◌}
use Rattle.base.specs.laws.Tests.{and-true, same-unlike}
use Rattle.lexer.specs.Kinds.{Word, words, kind_in, word_kind_lem, k_name}
use Rattle.lexer.specs.promises.Words.{has_length}

skip : (ws : List Word) (t : List ℕ) → kind_in ws t ≡ kind_in (has_length (length t) ws) t
skip [] t = refl
skip (w ∷ ws) t = step (skip ws t) (eqb (length w.text) (length t)) refl
  where
    step : kind_in ws t ≡ kind_in (has_length (length t) ws) t → (b : Bool) → eqb (length w.text) (length t) ≡ b
        → kind_in (w ∷ ws) t ≡ kind_in (if b then (λ _. w ∷ has_length (length t) ws) otherwise λ _. has_length (length t) ws) t
    step r true e = rw r refl
    step r false e = rw (same-unlike w.text t (eqb-false (length w.text) (length t) e)) r

pub own-length : (t : List ℕ) → word_kind_lem t ≡ kind_in (has_length (length t) words) t
unfolding word_kind_lem
own-length t = skip words t

-- ---- there are words of 2 to 7 bytes only

abbrev from2to7 : List Word → Bool
from2to7 [] = true
from2to7 (w ∷ ws) = leb 2 (length w.text) && leb (length w.text) 7 && from2to7 ws

other : (ws : List Word) (t : List ℕ) → from2to7 ws ≡ true → ((n : ℕ) → 2 ≤ n → n ≤ 7 → n ≢ length t) → k_name ≡ kind_in ws t
other [] t p h = refl
other (w ∷ ws) t p h =
    let n = length w.text in
    let q = and-true (leb 2 n && leb n 7) (from2to7 ws) p in
    let r = and-true (leb 2 n) (leb n 7) q.0 in
    rw (same-unlike w.text t (h n (leb-true 2 n r.0) (leb-true n 7 r.1))) (other ws t q.1 h)

pub no_word : (t : List ℕ) → length t ≢ 2 → length t ≢ 3 → length t ≢ 4 → length t ≢ 5 → length t ≢ 6 → length t ≢ 7 → k_name ≡ word_kind_lem t
unfolding word_kind_lem words
no_word t n2 n3 n4 n5 n6 n7 = other words t refl (λ n l u e. omega arith)
