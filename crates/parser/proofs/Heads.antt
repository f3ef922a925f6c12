-- A form that begins with a token of one kind and, as its head, tokens of given kinds after it: what the code finds of the head tells where the definition
-- refuses it, or that the definition goes on after it.
use Prim.Native.Nat.{ℕ, ◌+◌, ◌≤◌, ◌<◌}
use mathlib.Core.Path.{◌≡◌, refl, ap, ◌∙◌}
use mathlib.Core.List.{List}
use native.Mathlib.Omega.{arith}
use lib.ListN.{length}
use Rattle.lexer.specs.Tokens.{Token}
use Rattle.std.specs.Prelude.{Ok, Err}
use Rattle.parser.specs.declared.answer.Misfit.{Misfit}
use Rattle.parser.specs.Tree.{Sort, Part}
use Rattle.parser.specs.Stream.{kind_at}
use Rattle.parser.specs.Parse.{Parsed, bad, Mode, expect_all, step, parse_as}
use Rattle.parser.specs.promises.Post.{kind_in_table, TokensIn, met-bad, ModePost, fuel}
use Rattle.parser.proofs.Laws.{there, is, at-result, stepped}
use Rattle.parser.specs.promises.Parts.{Kinds, ExpectedAll}
use Rattle.parser.proofs.Wholes.{all-found, one-missed}
use Rattle.parser.proofs.Matched.{head-found, all-matched, not-matched}

-- a head that was found is there
pub head-there : {T : List ℕ} {n i k j : ℕ} (head : List ℕ) → Kinds head → 0 < k → kind_in_table T n i ≡ k → ExpectedAll T n head (i + 1) (Ok j)
    → (i < n) × (i + 1 + length head ≡ j) × (j ≤ n)
head-there {T} {n} {i} {k} head q pos z s =
    let il = there T n i _ k refl z pos in
    let g = head-found head q (omega arith) s in
    (il, g.0, g.1)

-- g is what the definition goes on with
module _ {s : Sort} (mode : Mode s) {n i k : ℕ} {T : List ℕ} (head : List ℕ) (z : kind_in_table T n i ≡ k)
    (g : ℕ → List Token → ℕ → Parsed (Part s))
    (steps : (f : ℕ) (ts : List Token) → kind_at ts i ≡ k → step ts (λ s m j. parse_as f ts m j) mode i ≡ expect_all ts head (i + 1) (g f ts)) where
  pub head-bad : {m : Misfit} → ExpectedAll T n head (i + 1) (Err m) → ModePost mode n n i T (Err m) T
  head-bad s =
      let o = one-missed s in
      record {
        kept = refl;
        within = tt;
        says = λ ts h. stepped mode ts i (fuel mode n i) (λ f enough.
            at-result (steps f ts (is h i refl z) ∙ not-matched h (i + 1) head (g f ts) o.0 ∙ ap bad o.1) met-bad);
      }

  pub head_passed : {j : ℕ} → ExpectedAll T n head (i + 1) (Ok j) → (f : ℕ) (ts : List Token) → TokensIn T n ts
      → step ts (λ s m j. parse_as f ts m j) mode i ≡ g f ts j
  head_passed s f ts h =
      let o = all-found s in
      steps f ts (is h i refl z) ∙ all-matched h (i + 1) head (g f ts) o.0 ∙ ap (g f ts) o.1
