-- What the functions over the tree of rows ensure: it keeps a set of rows, and its top has the least of them.
use Rattle.std.specs.Prelude.{ℕ, ◌+◌, ◌*◌, ◌≤◌, ◌<◌, min, ◌≡◌, List, Bool, true, false, ◌&&◌, ◌||◌, not, get_or, eqb}
use Rattle.parser.specs.promises.Layout.{absent}

-- how many words the tree has: a leaf for each row, and before them the nodes above
abbrev pub tree_size : ℕ
tree_size = 4096

-- the word of a leaf: its row, where that is in the set
abbrev pub leaf : Bool → ℕ → ℕ
leaf true row = row
leaf false row = absent

-- a node has the lesser of the two words below it
abbrev pub RightNode : List ℕ → ℕ → Type 0
RightNode tree v = get_or tree v 0 ≡ min (get_or tree (2 * v) 0) (get_or tree (2 * v + 1) 0)

pub record Keeps (tree : List ℕ) (S : ℕ → Bool) : Type 0 where
  pub leaves : (row : ℕ) → row < absent → get_or tree (absent + row) 0 ≡ leaf (S row) row
  pub nodes : (v : ℕ) → 0 < v → v < absent → RightNode tree v

-- where all nodes but v are right, all are afterwards; the leaves stay
pub record Mended (v : ℕ) (before after : List ℕ) : Type 0 where
  pub nodes : ((u : ℕ) → 0 < u → u < absent → (u ≡ v → ⊥) → RightNode before u) → (u : ℕ) → 0 < u → u < absent → RightNode after u
  pub leaves : (l : ℕ) → absent ≤ l → get_or after l 0 ≡ get_or before l 0

pub record Entered (row : ℕ) (before after : List ℕ) : Type 0 where
  pub says : (S : ℕ → Bool) → Keeps before S → Keeps after (λ r. eqb row r || S r)

pub record Removed (row : ℕ) (before after : List ℕ) : Type 0 where
  pub says : (S : ℕ → Bool) → Keeps before S → Keeps after (λ r. not (eqb row r) && S r)
