-- A list of declarations ends where no more begins; else it is a member and the rest of it.
-- What differs is the member and how the list's parser begins.
use Prim.Native.Nat.{ℕ, suc, ◌+◌, ◌*◌, ◌-◌, ◌≤◌, ◌<◌}
use mathlib.Core.Path.{◌≡◌, refl}
use mathlib.Core.List.{List}
use native.Mathlib.Omega.{arith}
use Rattle.base.specs.promises.Table.{put, c_next}
use Rattle.base.specs.Codes.{tokens_most}
use Rattle.lexer.specs.Tokens.{Token}
use Rattle.parser.specs.promises.Answers.{Answer, At, Bad}
use Rattle.parser.specs.Parse.{Parsed, ok, bind}
use Rattle.parser.specs.promises.Post.{TokensIn, Stored, met-ok}
use Rattle.parser.specs.promises.Parts.{PiecePost}
use Rattle.parser.specs.promises.DeclarationPost.{Declaration, Of, item_from, declaration_stored, rank_of, low_of, top_of, DeclPost}
use Rattle.parser.proofs.Laws.{at-result, at_suc, within-ok}
use Rattle.parser.proofs.Pieces.{then-bad, then-list, of-declaration, as-declarations}
use Rattle.parser.specs.promises.Layout.{absent}
use Rattle.parser.proofs.Wholes.{ListOf}

pub list-end : (l : Declaration) (nil : Of l) {n i : ℕ} {T : List ℕ} → low_of l i ≤ i → i ≤ n → absent < top_of l n
    → absent ≡ (declaration_stored l).row nil
    → T ≡ (declaration_stored l).write nil T → ((f : ℕ) (ts : List Token) → TokensIn T n ts → item_from l (suc f) ts i ≡ ok nil i)
    → DeclPost l n i T (At absent i) T
list-end l nil {i = i} low le high er et steps =
    record {
      kept = refl;
      within = (low, le, high);
      says = λ ts h. at_suc (λ f. item_from l f ts i) (λ f enough. at-result (steps f ts h) (met-ok {a = nil} er et));
    }

-- cons makes the list of a member, whose definition is P, and the rest
module _ {A : Type 0} {S : Stored A} {P : ℕ → List Token → Parsed A} {enough low n top : ℕ} {T T₁ : List ℕ} {r : Answer}
    (l : Declaration) (i : ℕ) (cons : A → Of l → Of l) (few : n ≤ tokens_most) (p : PiecePost S P enough low n top T r T₁)
    (lt : enough < 16 * (n - i) + rank_of l)
    (steps : (f : ℕ) (ts : List Token) → TokensIn T n ts
    → item_from l (suc f) ts i ≡ bind (P f ts) λ a j. bind (item_from l f ts j) λ b j. ok (cons a b) j) where
  pub list-bad : {y : ℕ} → r ≡ Bad y → DeclPost l n i T (Bad y) T₁
  list-bad e =
      as-declarations {low = low_of l i} (omega arith)
      (then-bad few p (low_of l i) (top_of l n) (λ f ts a j. bind (item_from l f ts j) λ b j. ok (cons a b) j) e) lt steps

  pub list-more : {x j : ℕ} {T₂ T₃ : List ℕ} {r₂ r' : Answer}
      → ((a : A) (b : Of l) (t : List ℕ) → (S.row a ≡ (declaration_stored l).row (cons a b))
      × (put ((declaration_stored l).write b (S.write a t)) c_next (S.row a) ((declaration_stored l).row b)
      ≡ (declaration_stored l).write (cons a b) t))
      → ((m : ℕ) → low_of l m ≡ m) → i < low → top ≤ top_of l n → rank_of l ≤ 16 → 16 * (n - i) ≤ enough → r ≡ At x j
      → DeclPost l n j T₁ r₂ T₂ → ListOf x T₂ r₂ r' T₃ → DeclPost l n i T r' T₃
  list-more {x} {j} is-cons lows less high small much e q s =
      let w = within-ok e p.within in
      as-declarations (omega (arith, lows i))
      (then-list few p cons is-cons (λ f ts j. item_from l f ts j) high (omega (arith, lows j)) e (of-declaration enough (omega arith) q) s)
      lt steps
