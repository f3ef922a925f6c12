-- An answer and what is made of it: with a token behind it, or as a part of a node or a list.
use Prim.Native.Nat.{ℕ, ◌+◌, ◌≤◌, ◌<◌}
use mathlib.Core.Path.{◌≡◌, refl, ap, subst, ◌∙◌}
use mathlib.Core.List.{List}
use mathlib.Core.Logic.{◌≢◌}
use mathlib.Core.Bool.{true, false}
use lib.Dec.{eqb}
use lib.ListN.{length}
use borrow.Author.Tests.{eqb-true, eqb-false}
use Rattle.std.specs.Prelude.{Result, Ok, Err}
use Rattle.std.specs.Result.{IsErrAnd}
use Rattle.std.proofs.lemmas.Result.{err_from_is_err_and}
use Rattle.lexer.specs.Kinds.{k_name}
use Rattle.parser.specs.declared.answer.Misfit.{Misfit}
use Rattle.parser.specs.Parse.{accepts}
use Rattle.base.specs.promises.Table.{col, put, c_start, c_next}
use Rattle.parser.specs.promises.Answers.{Answer, At, Bad}
use Rattle.parser.specs.promises.Layout.{absent, node}
use Rattle.parser.specs.promises.Post.{kind_in_table, matched_in}
use Rattle.parser.specs.promises.Parts.{Expected, present as there_it_is, missing as not_there, ExpectedAll, all_present, one_missing}

-- the answer with a token of this kind after what was read
pub data Follows (tab : List ℕ) (n wanted : ℕ) : Answer → Answer → Type 0 where
  present : {x j : ℕ} → kind_in_table tab n j ≡ wanted → Follows tab n wanted (At x j) (At x (j + 1))
  missing : {x j : ℕ} → kind_in_table tab n j ≢ wanted → Follows tab n wanted (At x j) (Bad j)
  nothing : {k : ℕ} → Follows tab n wanted (Bad k) (Bad k)

-- of what was read, a whole is made in this row; `write` is the table with it, by the row of what was read
pub data WholeOf (row : ℕ) (write : ℕ → List ℕ) (before : List ℕ) : Answer → Answer → List ℕ → Type 0 where
  done : {x j : ℕ} → WholeOf row write before (At x j) (At row j) (write x)
  refused : {k : ℕ} → WholeOf row write before (Bad k) (Bad k) before

-- the rest of a list after its first member
abbrev pub ListOf : (row : ℕ) (before : List ℕ) → Answer → Answer → List ℕ → Type 0
ListOf row before a r after = WholeOf row (λ x. put before c_next row x) before a r after

-- the part of a node that begins with its own token and has no other
abbrev pub OnePart : (row : ℕ) (before : List ℕ) → Answer → Answer → List ℕ → Type 0
OnePart row before a r after = WholeOf row (λ x. node before row (col before c_start row) x absent) before a r after

-- the second part of a node that begins with token `first`
abbrev pub TwoParts : (row first left : ℕ) (before : List ℕ) → Answer → Answer → List ℕ → Type 0
TwoParts row first left before a r after = WholeOf row (λ x. node before row (col before c_start first) left x) before a r after

-- WHAT THE CODE LOOKED FOR

pub found-by : {T : List ℕ} {n q i j : ℕ} → Expected T n q i (Ok j) → (accepts q (kind_in_table T n i) ≡ true) × (i + 1 ≡ j)
found-by (there_it_is e) = (e, refl)

pub missed-by : {T : List ℕ} {n q i : ℕ} {m : Misfit} → Expected T n q i (Err m) → (accepts q (kind_in_table T n i) ≡ false) × (i ≡ m.token)
missed-by (not_there e) = (e, refl)

-- of a kind that is no name's
module _ {T : List ℕ} {n q i : ℕ} (o : eqb q k_name ≡ false) where
  pub found-kind : {j : ℕ} → Expected T n q i (Ok j) → (kind_in_table T n i ≡ q) × (i + 1 ≡ j)
  found-kind s = let f = found-by s in (eqb-true _ q (rw o at f.0), f.1)

  pub missed-kind : {m : Misfit} → Expected T n q i (Err m) → (kind_in_table T n i ≢ q) × (i ≡ m.token)
  missed-kind s = let f = missed-by s in (eqb-false _ q (rw o at f.0), f.1)

  -- behind what was read
  pub behind : {x j : ℕ} → Expected T n q i (Ok j) → Follows T n q (At x i) (At x j)
  behind {x} s = let f = found-kind s in subst (λ (j : ℕ). Follows T n q (At x i) (At x j)) f.1 (present f.0)

  pub not-behind : {x : ℕ} {m : Misfit} → Expected T n q i (Err m) → Follows T n q (At x i) (Err m)
  not-behind {x = x} s = let f = missed-kind s in subst (λ (k : ℕ). Follows T n q (At x i) (Bad k)) f.1 (missing f.0)

-- tokens one after the other
pub all-found : {T : List ℕ} {n i : ℕ} {qs : List ℕ} {j : ℕ} → ExpectedAll T n qs i (Ok j) → (length qs ≤ matched_in T n i qs) × (i + length qs ≡ j)
all-found (all_present l) = (l, refl)

pub one-missed : {T : List ℕ} {n i : ℕ} {qs : List ℕ} {m : Misfit} → ExpectedAll T n qs i (Err m)
    → (matched_in T n i qs < length qs) × (i + matched_in T n i qs ≡ m.token)
one-missed (one_missing l) = (l, refl)

-- WHAT THE CODE WROTE

module _ {row x j : ℕ} {T T₁ : List ℕ} where
  pub listed : T₁ ≡ put T c_next row x → ListOf row T (At x j) (At row j) T₁
  listed e = rw e done

  pub with-one : T₁ ≡ node T row (col T c_start row) x absent → OnePart row T (At x j) (At row j) T₁
  with-one e = rw e done

  pub with-two : (first left : ℕ) → T₁ ≡ node T row (col T c_start first) left x → TwoParts row first left T (At x j) (At row j) T₁
  with-two first left e = rw e done

-- WHERE A `?` RETURNS
pub passed-on : {A : Type 0} {r : Result A Misfit} {m : Misfit} → IsErrAnd r (λ y. y ≡ m) → r ≡ Err m
passed-on {A} {r} h = let p = err_from_is_err_and r h in p.1 ∙ ap (λ (y : Misfit). Err y) p.2
