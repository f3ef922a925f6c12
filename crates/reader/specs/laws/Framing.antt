-- Framing, once. `Lies i j E f H` says that f writes only in rows i up to j of a table, that H then holds, and that H holds as well in
-- every table that has the same words in these rows, but for the words E, which H does not read. Two writings can follow one another
-- where the second leaves alone what the first one's H reads.
use Rattle.std.specs.Prelude.{ℕ, ◌≤◌, ◌<◌, ◌≡◌, refl, List, ◌≢◌, length}
use Rattle.std.proofs.Common.{◌∙◌, arith}
use Rattle.base.specs.promises.Table.{rows, size, cell, col, put, length-put, col-put-same, col-put-other, c_begin, c_next}

-- a word of rows i up to j, in a column behind those of the tokens
abbrev pub Inside : (i j k r : ℕ) → Type 0
Inside i j k r = (c_begin ≤ k) × (i ≤ r) × (r < j)

-- words of a table, by column and row
abbrev pub Region : Type 1
Region = ℕ → ℕ → Type 0

-- no word
abbrev pub nowhere : Region
nowhere k r = ⊥

-- all words of a row
abbrev pub whole_row : ℕ → Region
whole_row row k r = r ≡ row

-- `c_next` of a member's own row, which its list writes after it: the tree itself does not read it
abbrev pub next_of : ℕ → Region
next_of row k r = (k ≡ c_next) × (r ≡ row)

-- those but the word at column k₀ of row r₀
abbrev pub without : Region → (k₀ r₀ : ℕ) → Region
without E k₀ r₀ k r = E k r × (cell k r ≢ cell k₀ r₀)

pub record Lies (i j : ℕ) (E : Region) (f : List ℕ → List ℕ) (H : List ℕ → Type 0) : Type 0 where
  pub order : i ≤ j
  pub long : (tab : List ℕ) → length (f tab) ≡ length tab
  pub other : j ≤ rows → (tab : List ℕ) (k r : ℕ) → r < rows → (Inside i j k r → ⊥) → col (f tab) k r ≡ col tab k r
  pub holds : j ≤ rows → (tab tab' : List ℕ) → size ≤ length tab
      → ((k r : ℕ) → Inside i j k r → (E k r → ⊥) → col tab' k r ≡ col (f tab) k r) → H tab'

-- two parts [a, b) and [c, d) of [i, j) have no row in common, and the words of E in them are words of A and of B
pub record Beside (i j : ℕ) (E : Region) (a b : ℕ) (A : Region) (c d : ℕ) (B : Region) : Type 0 where
  pub left-from : i ≤ a
  pub left-to : b ≤ j
  pub right-from : i ≤ c
  pub right-to : d ≤ j
  pub apart : (k r : ℕ) → Inside a b k r → Inside c d k r → ⊥
  pub left : (k r : ℕ) → Inside a b k r → E k r → A k r
  pub right : (k r : ℕ) → Inside c d k r → E k r → B k r

-- what writes nothing
pub writes_nothing : (i j : ℕ) (E : Region) → i ≤ j → Lies i j E (λ tab. tab) (λ tab. Unit {0})
writes_nothing i j E h = record { order = h; long = λ tab. refl; other = λ hj tab k r hr n. refl; holds = λ hj tab tab' hl ag. tt }

module _ {f : List ℕ → List ℕ} {H : List ℕ → Type 0} where
  -- to say it otherwise: of more rows, and of fewer words that are not read
  pub reshape : (i j : ℕ) (E : Region) {a b : ℕ} {A : Region} {G : List ℕ → Type 0} → Lies a b A f H → (i ≤ a) × (b ≤ j)
      → ((k r : ℕ) → Inside a b k r → E k r → A k r) → ((tab : List ℕ) → H tab → G tab) → Lies i j E f G
  reshape i j E x w fewer s =
      record {
        order = omega (arith, x.order);
        long = x.long;
        other = λ hj tab k r hr n. x.other (omega arith) tab k r hr (λ h. n (omega arith));
        holds = λ hj tab tab' hl ag. s tab' (x.holds (omega arith) tab tab' hl (λ k r h n. ag k r (omega arith) (λ e. n (fewer k r h e))));
      }

  -- one writing and then another
  pub join : (i j : ℕ) (E : Region) {a b c d : ℕ} {A B : Region} {g : List ℕ → List ℕ} {G : List ℕ → Type 0} → Lies a b A f H
      → Lies c d B g G → Beside i j E a b A c d B
      → Lies i j E (λ tab. g (f tab)) (λ tab. H tab × G tab)
  join i j E x y s =
      record {
        order = omega (arith, x.order);
        long = λ tab. y.long (f tab) ∙ x.long tab;
        other = λ hj tab k r hr n. y.other (omega arith) (f tab) k r hr (λ h. n (omega arith)) ∙ x.other (omega arith) tab k r hr (λ h. n (omega arith));
        holds = λ hj tab tab' hl ag. (
          x.holds (omega arith) tab tab' hl λ k r h n.
              ag k r (omega arith) (λ e. n (s.left k r h e)) ∙ y.other (omega arith) (f tab) k r (omega arith) (s.apart k r h),
          y.holds (omega arith) (f tab) tab' (omega (arith, x.long tab)) λ k r h n. ag k r (omega arith) (λ e. n (s.right k r h e)),
        );
      }

  -- one word more, which was not read before
  pub another : {i j : ℕ} {E : Region} (k₀ r₀ v : ℕ) → Lies i j E f H → Inside i j k₀ r₀ → k₀ < 8 → E k₀ r₀
      → Lies i j (without E k₀ r₀) (λ tab. put (f tab) k₀ r₀ v) (λ tab. H tab × (col tab k₀ r₀ ≡ v))
  another k₀ r₀ v x inside h₈ e₀ =
      record {
        order = x.order;
        long = λ tab. length-put (f tab) k₀ r₀ v ∙ x.long tab;
        other = λ hj tab k r hr n. col-put-other (f tab) k r k₀ r₀ hr (omega arith) (λ z w. n (omega arith)) v ∙ x.other hj tab k r hr n;
        holds = λ hj tab tab' hl ag.
            let long = x.long tab in (
              x.holds hj tab tab' hl λ k r h n. ag k r h (λ e. n e.0) ∙ col-put-other (f tab) k r k₀ r₀ (omega arith) (omega arith) (λ z w. n (rw (z, w) e₀)) v,
              ag k₀ r₀ inside (λ e. e.1 refl) ∙ col-put-same (f tab) k₀ r₀ v (omega arith),
            );
      }

-- what has a row of its own lies between i and j, this row too
abbrev pub Own : (i j row : ℕ) → (List ℕ → List ℕ) → (List ℕ → Type 0) → Type 0
Own i j row f H = (i ≤ row) × (row < j) × Lies i j (next_of row) f H

-- a member of a list, the rest of the list, and the way from the one to the other
pub link : (v : ℕ) {a b o c d : ℕ} {f g : List ℕ → List ℕ} {H G : List ℕ → Type 0} → Own a b o f H → Lies c d nowhere g G → b ≤ c
    → Lies a d nowhere (λ tab. put (g (f tab)) c_next o v) (λ tab. H tab × (col tab c_next o ≡ v) × G tab)
link v {a} {o = o} {d = d} x y bc =
    let cd = y.order in
    reshape a d nowhere (another c_next o v (join a d (next_of o) x.2 y (omega arith)) (omega arith) (omega arith) (omega arith)) (omega arith) (omega arith)
    (λ tab h. (h.0.0, h.1, h.0.1))
