-- Walking along a list by a loop. What has been walked, joined with the walk of what is left, is the walk of the whole: joining is
-- associative, so a turn keeps that.
use Prim.Native.Nat.{ℕ, ◌+◌, ◌≤◌, ◌<◌, min}
use mathlib.Core.Path.{◌≡◌, refl, sym, ◌∙◌}
use mathlib.Core.List.{List}
use mathlib.Core.Bool.{Bool, true, false}
use native.Mathlib.Omega.{arith}
use native.Mathlib.Decide.{dec_lt}
use borrow.Author.Tests.{lt-ltb, le-ltb}
use Rattle.base.specs.promises.Table.{col, c_next}
use Rattle.parser.specs.promises.Layout.{absent}
use Rattle.reader.specs.promises.WalkPost.{nowhere, count_most, follower}
use Rattle.reader.specs.declared.walk.Walked.{Walked}
use Rattle.reader.proofs.Depths.{Joins}

-- THE NEXT ROW

module _ (tab : List ℕ) (row : ℕ) where
  pub follower-up : row < col tab c_next row → follower tab true row ≡ col tab c_next row
  unfolding follower
  follower-up h = simp (lt-ltb row (col tab c_next row) h)

  follower-wrong : col tab c_next row ≤ row → follower tab true row ≡ absent
  unfolding follower
  follower-wrong h = simp (le-ltb row (col tab c_next row) h)

  pub follower-none : follower tab false row ≡ absent
  unfolding follower
  follower-none = refl

  -- what the code answers
  pub following-up : {chain : Bool} {next : ℕ} → chain ≡ true → next ≡ col tab c_next row → row < next → next ≡ follower tab chain row
  following-up t e h = rw t (e ∙ sym (follower-up (omega arith)))

  pub following-wrong : {chain : Bool} {next : ℕ} → chain ≡ true → next ≡ col tab c_next row → next ≤ row → absent ≡ follower tab chain row
  following-wrong t e h = rw t (sym (follower-wrong (omega arith)))

  pub following-none : {chain : Bool} → chain ≡ false → absent ≡ follower tab chain row
  following-none t = rw t (sym follower-none)

  -- the loop's measure falls
  pub follower-rises : (chain : Bool) → row < absent → row < follower tab chain row
  follower-rises true near = elim (dec_lt row (col tab c_next row)) [
    | yes up ↦ omega (arith, follower-up up)
    | no wrong ↦ omega (arith, follower-wrong (omega arith))
  ]
  follower-rises false near = omega (arith, follower-none)

-- THE LOOP

-- `Walk i w` says that w is the walk from row i on. The rows from `row` up to `at` have been walked, with the answer `all`.
pub record SoFar (Walk : ℕ → Walked → Type 0) (row at : ℕ) (all : Walked) : Type 0 where
  pub count : all.count ≤ count_most
  pub place : all.place ≤ nowhere
  pub whole : (rest w : Walked) → Walk at rest → Joins all rest w → Walk row w

module _ (Walk : ℕ → Walked → Type 0) {row : ℕ} where
  -- none was walked yet
  pub so-far-none : {all : Walked} → all.count ≡ 0 → all.place ≡ nowhere
      → ((rest w : Walked) → Walk row rest → Joins all rest w → Walk row w) → SoFar Walk row row all
  so-far-none c p h = record { count = omega arith; place = omega arith; whole = h }

  -- a member was walked at `at`, and the list goes on at `next`
  pub so_far_more : {at next : ℕ} {all all' : Walked} (own : Walked)
      → ((rest w : Walked) → Walk next rest → Joins own rest w → Walk at w) → SoFar Walk row at all → Joins all own all'
      → SoFar Walk row next all'
  so_far_more own step h j =
      record {
        count = omega (arith, j.0);
        place = omega (arith, j.1, h.place);
        whole = λ rest w k i.
            let m : Walked = record { count = min (own.count + rest.count) count_most; place = min own.place rest.place } in
            h.whole m w (step rest m k (refl, refl)) (omega (arith, j.0, i.0), omega (arith, j.1, i.1));
      }

  -- no member is left
  pub so-far-end : {at : ℕ} {all : Walked} (none : Walked) → none.count ≡ 0 → none.place ≡ nowhere → Walk at none
      → SoFar Walk row at all → Walk row all
  so-far-end {all = all} none c p e h = h.whole none all e (omega (arith, h.count), omega (arith, h.place))
