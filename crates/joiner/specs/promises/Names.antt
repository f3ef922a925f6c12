-- Names by the position where they begin, which is what is kept of the lesson while the library is in the work table.
use Rattle.std.specs.Prelude.{ℕ, zero, suc, ◌+◌, ◌≡◌, List, [], ◌∷◌, map, Bool, true, false, ◌||◌, ◌&&◌, length, get_or, set, drop, eqb, ltb}
use Rattle.base.specs.Choice.{if◌then◌otherwise◌}
use Rattle.base.specs.promises.Table.{col, c_start, c_next}
use Rattle.lexer.specs.Bytes.{is_name_part_lem}
use Rattle.lexer.specs.Tokens.{longest_run}
use Rattle.parser.specs.Tree.{Program}
use Rattle.parser.specs.promises.Layout.{absent}
use Rattle.parser.specs.Read.{Reading}
use Rattle.reader.specs.promises.ReadPost.{Filling}

-- the name that begins at a position: the longest run of its bytes from there on
unfoldable pub name_text : List ℕ → (at : ℕ) → List ℕ
name_text bytes at = longest_run is_name_part_lem (drop at bytes)

-- the byte at a position, where a name may have it; else 0
unfoldable pub part_at : List ℕ → (at : ℕ) → ℕ
part_at bytes at = if ltb at (length bytes) && is_name_part_lem (get_or bytes at 0) then (λ _. get_or bytes at 0) otherwise λ _. 0

-- the names that begin at two positions are the same, as far as so many bytes tell
unfoldable pub same_within_lem : List ℕ → (i : ℕ) → List ℕ → (j left : ℕ) → Bool
same_within_lem a i b j zero = false
same_within_lem a i b j (suc n) =
    if eqb (part_at a i) (part_at b j)
    then (λ _. if eqb (part_at a i) 0 then (λ _. true) otherwise λ _. same_within_lem a (i + 1) b (j + 1) n)
    otherwise λ _. false

-- a name has at most 255 bytes
abbrev pub name_room : ℕ
name_room = 256

-- no position is larger than a word, and no name reaches further than this
abbrev pub farthest : ℕ
farthest = 4294967552

-- the positions of the names of a lesson's classes, main's first
abbrev pub positions_of : Program → List ℕ
positions_of p = p.main.start ∷ map (λ k. k.name.start) p.classes

-- an array holds these numbers from place i on
abbrev pub ListedFrom : (array : List ℕ) → (i : ℕ) → List ℕ → Type 0
ListedFrom a i [] = Unit {0}
ListedFrom a i (x ∷ xs) = (get_or a i 0 ≡ x) × ListedFrom a (i + 1) xs

-- the name at a position of the library is one of so many names of a lesson, whose positions an array holds from place i on
unfoldable pub taken_within_lem : (lesson array : List ℕ) → (i left : ℕ) → (library : List ℕ) → (at : ℕ) → Bool
taken_within_lem s a i zero lib at = false
taken_within_lem s a i (suc n) lib at = same_within_lem s (get_or a i 0) lib at name_room || taken_within_lem s a (i + 1) n lib at

-- an array with the positions of the names of at most so many classes, from a row on, written from place i on
unfoldable pub collected : (tab : List ℕ) → (row i left : ℕ) → List ℕ → List ℕ
collected tab row i zero a = a
collected tab row i (suc n) a =
    if ltb row absent then (λ _. collected tab (col tab c_next row) (i + 1) n (set a i (col tab c_start row))) otherwise λ _. a

-- the place behind the last of them
unfoldable pub place_behind : (tab : List ℕ) → (row i left : ℕ) → ℕ
place_behind tab row i zero = i
place_behind tab row i (suc n) = if ltb row absent then (λ _. place_behind tab (col tab c_next row) (i + 1) n) otherwise λ _. i

pub record Collects (tab : List ℕ) (row i left : ℕ) (before : List ℕ) (r : ℕ) (after : List ℕ) : Type 0 where
  pub array : after ≡ collected tab row i left before
  pub count : r ≡ place_behind tab row i left

-- so many classes a source has at most, with main's: a class has four tokens or more
abbrev pub classes_most : ℕ
classes_most = 512

-- the names of a lesson are kept, whatever the lesson is that the table holds
pub record NamesKept (tab : List ℕ) (r : ℕ) (array : List ℕ) : Type 0 where
  pub says : (l : Reading) → Filling tab l → (r ≡ suc (length l.tree.classes)) × ListedFrom array 0 (positions_of l.tree)
