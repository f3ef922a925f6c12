-- What the functions over the tree of rows return meets their contracts. A word is set, and the nodes above it anew: of the others none
-- has it below.
use Prim.Native.Nat.{ℕ, zero, suc, ◌+◌, ◌-◌, ◌*◌, ◌/◌, ◌≤◌, ◌<◌, min}
use native.Mathlib.Omega.{arith}
use native.Mathlib.Decide.{ℕ_discrete, dec_lt}
use mathlib.Core.Path.{◌≡◌, refl, sym, ap, ◌∙◌, subst}
use mathlib.Core.List.{List}
use mathlib.Core.Bool.{Bool, true, false, ◌&&◌, ◌||◌, not}
use lib.ListN.{length, get_or, set}
use lib.Seq.{get_or-set_same, get_or-set_other}
use lib.Dec.{eqb}
use borrow.Author.Tests.{eq-eqb, ne_eqb}
use Rattle.parser.specs.promises.Layout.{absent}
use Rattle.menu.specs.promises.Least.{leaf, RightNode, Keeps, Mended, Entered, Removed, tree_size}

-- SETTING A WORD

-- a node over two other words stays right
kept-right : (tree : List ℕ) (i x u : ℕ) → (u ≡ i → ⊥) → (2 * u ≡ i → ⊥) → (2 * u + 1 ≡ i → ⊥) → RightNode tree u
    → RightNode (set tree i x) u
kept-right tree i x u a b c h = rw (get_or-set_other tree i u x 0 a, get_or-set_other tree i (2 * u) x 0 b, get_or-set_other tree i (2 * u + 1) x 0 c) h

pub mend-none : (tree : List ℕ) {v : ℕ} → v ≡ 0 → Mended v tree tree
mend-none tree z = record { nodes = λ h u low high. h u low high (λ e. omega (arith, e)); leaves = λ l h. refl }

pub mend-next : {before : List ℕ} {v : ℕ} → (v ≡ 0 → ⊥) → v < absent → length before ≡ tree_size → {a b x : ℕ} → a ≡ get_or before (2 * v) 0
    → b ≡ get_or before (2 * v + 1) 0
    → x ≡ min a b → {middle after : List ℕ} → middle ≡ set before v x → Mended (v / 2) middle after → Mended v before after
mend-next {before} {v} some high long {a} {b} {x} ea eb e {middle} {after} s m =
    record {
      nodes = λ h. m.nodes (λ u low top other. subst (λ (t : List ℕ). RightNode t u) (sym s) (one u low top other (h u low top) (ℕ_discrete u v)));
      leaves = λ l h. m.leaves l h ∙ ap (λ (t : List ℕ). get_or t l 0) s ∙ get_or-set_other before v l x 0 (λ z. omega (arith, z));
    }
  where
    one : (u : ℕ) → 0 < u → u < absent → (u ≡ v / 2 → ⊥) → ((u ≡ v → ⊥) → RightNode before u) → Dec (u ≡ v) → RightNode (set before v x) u
    one u low top other h (yes is) =
        rw (is, get_or-set_same before v x 0 (omega arith), get_or-set_other before v (2 * v) x 0 (λ z. omega (arith, z)), get_or-set_other before v (2 * v + 1) x 0 (λ z. omega (arith, z)))
        (e ∙ rw (ea, eb))
    one u low top other h (no differ) =
        kept-right before v x u differ (λ z. other (omega (arith, z))) (λ z. other (omega (arith, z))) (h differ)

-- A LEAF SET

module _ (before : List ℕ) (x : ℕ) {row : ℕ} (low : row < absent) (long : length before ≡ tree_size) {middle : List ℕ} (s : middle ≡ set before (absent + row) x)
    {after : List ℕ} (m : Mended (1024 + row / 2) middle after) where
  nodes-again : {S : ℕ → Bool} → Keeps before S → (v : ℕ) → 0 < v → v < absent → RightNode after v
  nodes-again k = m.nodes (λ u some top other. subst (λ (t : List ℕ). RightNode t u) (sym s)
      (kept-right before (absent + row) x u (λ z. omega (arith, z)) (λ z. other (omega (arith, z))) (λ z. other (omega (arith, z))) (k.nodes u some top)))

  this-leaf : get_or after (absent + row) 0 ≡ x
  this-leaf = m.leaves (absent + row) (omega arith) ∙ ap (λ (t : List ℕ). get_or t (absent + row) 0) s ∙ get_or-set_same before (absent + row) x 0 (omega arith)

  other-leaf : {S : ℕ → Bool} → Keeps before S → (r : ℕ) → r < absent → (row ≡ r → ⊥) → get_or after (absent + r) 0 ≡ leaf (S r) r
  other-leaf k r here other =
      m.leaves (absent + r) (omega arith) ∙ ap (λ (t : List ℕ). get_or t (absent + r) 0) s
      ∙ get_or-set_other before (absent + row) (absent + r) x 0 (λ z. other (omega (arith, z))) ∙ k.leaves r here

  leaves-again : {S : ℕ → Bool} → Keeps before S → (T : ℕ → Bool) → x ≡ leaf (T row) row → ((r : ℕ) → (row ≡ r → ⊥) → T r ≡ S r)
      → (r : ℕ) → r < absent → get_or after (absent + r) 0 ≡ leaf (T r) r
  leaves-again {S} k T e same r here = go (ℕ_discrete row r)
    where
      go : Dec (row ≡ r) → get_or after (absent + r) 0 ≡ leaf (T r) r
      go (yes is) = subst (λ (i : ℕ). get_or after (absent + i) 0 ≡ leaf (T i) i) is (this-leaf ∙ e)
      go (no other) = rw (same r other) (other-leaf k r here other)

  pub enter-row : x ≡ row → Entered row before after
  enter-row e = record {
    says = λ S k. record {
      leaves = leaves-again k (λ r. eqb row r || S r) (rw (eq-eqb row row refl) e) (λ r other. rw (ne_eqb row r other));
      nodes = nodes-again k;
    };
  }

  pub remove-row : x ≡ absent → Removed row before after
  remove-row e = record {
    says = λ S k. record {
      leaves = leaves-again k (λ r. not (eqb row r) && S r) (rw (eq-eqb row row refl) e) (λ r other. rw (ne_eqb row r other));
      nodes = nodes-again k;
    };
  }

-- THE TOP

module _ {tree : List ℕ} {S : ℕ → Bool} (k : Keeps tree S) where
  -- the word over a word is no greater
  half-below : (v : ℕ) → 0 < v / 2 → v < tree_size → get_or tree (v / 2) 0 ≤ get_or tree v 0
  half-below v h top = go (ℕ_discrete v (2 * (v / 2))) (k.nodes (v / 2) h (omega arith))
    where
      go : Dec (v ≡ 2 * (v / 2)) → RightNode tree (v / 2) → get_or tree (v / 2) 0 ≤ get_or tree v 0
      go (yes even) e = let z : get_or tree v 0 ≡ get_or tree (2 * (v / 2)) 0 = ap (λ (i : ℕ). get_or tree i 0) even in omega (arith, e, z)
      go (no odd) e =
          let i : v ≡ 2 * (v / 2) + 1 = omega arith in
          let z : get_or tree v 0 ≡ get_or tree (2 * (v / 2) + 1) 0 = ap (λ (i : ℕ). get_or tree i 0) i in
          omega (arith, e, z)

  -- no word is less than the top's; n is some bound
  top_below : (n v : ℕ) → v ≤ n → 0 < v → v < tree_size → get_or tree 1 0 ≤ get_or tree v 0
  top_below zero v few some top = absurd (omega arith)
  top_below (suc n) v few some top = go (ℕ_discrete v 1) (λ h. top_below n (v / 2) (omega arith) h (omega arith))
    where
      go : Dec (v ≡ 1) → (0 < v / 2 → get_or tree 1 0 ≤ get_or tree (v / 2) 0) → get_or tree 1 0 ≤ get_or tree v 0
      go (yes is) up = let z : get_or tree v 0 ≡ get_or tree 1 0 = ap (λ (i : ℕ). get_or tree i 0) is in omega (arith, z)
      go (no other) up = let h : 0 < v / 2 = omega arith in omega (arith, up h, half-below v h top)

  -- a row of the set is no less than the top's word
  pub top_least : (row : ℕ) → row < absent → S row ≡ true → get_or tree 1 0 ≤ row
  top_least row low e =
      let z : get_or tree (absent + row) 0 ≡ row = k.leaves row low ∙ ap (λ (b : Bool). leaf b row) e in
      omega (arith, top_below (absent + row) (absent + row) (omega arith) (omega arith) (omega arith), z)

  -- some leaf has a node's word
  abbrev AtLeaf : ℕ → Type 0
  AtLeaf v = (row : ℕ) × (row < absent) × (get_or tree (absent + row) 0 ≡ get_or tree v 0)

  some-leaf : (n v : ℕ) → tree_size ≤ v + n → 0 < v → v < tree_size → AtLeaf v
  some-leaf zero v few some top = absurd (omega arith)
  some-leaf (suc n) v few some top =
      go (dec_lt v absent) (λ h. some-leaf n (2 * v) (omega arith) (omega arith) (omega arith)) (λ h. some-leaf n (2 * v + 1) (omega arith) (omega arith) (omega arith))
    where
      lesser : Dec (get_or tree (2 * v + 1) 0 < get_or tree (2 * v) 0) → RightNode tree v → AtLeaf (2 * v) → AtLeaf (2 * v + 1) → AtLeaf v
      lesser (yes h) e l r = (r.0, r.1, r.2 ∙ (omega (arith, e)))
      lesser (no h) e l r = (l.0, l.1, l.2 ∙ (omega (arith, e)))

      go : Dec (v < absent) → (v < absent → AtLeaf (2 * v)) → (v < absent → AtLeaf (2 * v + 1)) → AtLeaf v
      go (yes h) l r = lesser (dec_lt (get_or tree (2 * v + 1) 0) (get_or tree (2 * v) 0)) (k.nodes v some h) (l h) (r h)
      go (no h) l r = (v - absent, omega arith, ap (λ (i : ℕ). get_or tree i 0) (omega arith))

  -- the top's word, where it is a row, is in the set
  pub top_in : {x : ℕ} → x ≡ get_or tree 1 0 → x < absent → S x ≡ true
  top_in {x} e low = let h = some-leaf tree_size 1 (omega arith) (omega arith) (omega arith) in go h.0 (S h.0) refl h.1 h.2
    where
      go : (row : ℕ) (b : Bool) → S row ≡ b → row < absent → get_or tree (absent + row) 0 ≡ get_or tree 1 0 → S x ≡ true
      go row true q here z =
          let r : row ≡ x = sym (k.leaves row here ∙ ap (λ (b : Bool). leaf b row) q) ∙ z ∙ sym e in
          ap S (sym r) ∙ q
      go row false q here z =
          let r : absent ≡ x = sym (k.leaves row here ∙ ap (λ (b : Bool). leaf b row) q) ∙ z ∙ sym e in
          absurd (omega arith)

-- sets that have the same rows
pub keeps_same : {tree : List ℕ} {S T : ℕ → Bool} → ((r : ℕ) → r < absent → S r ≡ T r) → Keeps tree S → Keeps tree T
keeps_same same k = record { leaves = λ r low. k.leaves r low ∙ ap (λ (b : Bool). leaf b r) (same r low); nodes = k.nodes }
