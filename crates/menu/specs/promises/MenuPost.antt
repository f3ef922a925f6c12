-- What the functions of Menu ensure: the positions of the classes lead the strip, in the order of the definition. The classes that may
-- stand are kept as a set of rows; the children of a class are a list of rows that lead to one another.
use Rattle.std.specs.Prelude.{ℕ, ◌+◌, ◌≤◌, ◌<◌, ◌≡◌, List, [], ◌∷◌, Bool, true, false, ◌&&◌, ◌||◌, length, get_or, set, eqb}
use Rattle.base.specs.Bytes.{same}
use Rattle.base.specs.Choice.{if◌then◌otherwise◌, option}
use Rattle.base.specs.All.{All}
use Rattle.base.specs.Outcome.{accepted}
use Rattle.lexer.specs.Tokens.{Token}
use Rattle.parser.specs.Tree.{Class, Program}
use Rattle.parser.specs.Grammar.{DerivesProgram}
use Rattle.typesystem.specs.ClassTable.{among}
use Rattle.typesystem.specs.TypingRules.{ProgramTyped, class_name}
use Rattle.parser.specs.promises.Layout.{absent}
use Rattle.lookup.specs.promises.HeldClasses.{ClassTableHeld}
use Rattle.declarations.specs.promises.Judgements.{ClassesAt, FoundByName}
use Rattle.declarations.specs.promises.Indexing.{Ready}
use Rattle.typesystem.specs.Check.{CheckAnswer, check_refusal}
use Rattle.std.specs.Prelude.{Result, Ok, Err}
use Rattle.base.specs.Codes.{success}
use Rattle.base.specs.declared.refusal.Refusal.{Refusal}
use Rattle.base.specs.promises.Refusals.{number_of}
use Rattle.menu.specs.Menu.{may_stand, writing, positions, Listing, listing}
use Rattle.menu.specs.promises.Least.{Keeps}

abbrev pub name_row : Class → ℕ
name_row k = k.name.row

-- THE SET

-- the rows of the classes of a list that may stand
unfoldable pub standing : (written : List Class) → List Class → ℕ → Bool
standing w [] row = false
standing w (k ∷ ks) row = (eqb (name_row k) row && may_stand w k) || standing w ks row

-- rows rise along a list of classes
pub data RowsRise : List Class → Type 0 where
  rising_none : RowsRise []
  rising-more : {k : Class} {ks : List Class} → All (λ (j : Class). name_row k < name_row j) ks → RowsRise ks → RowsRise (k ∷ ks)

-- the class table that the work table holds
pub record Tabled (tab : List ℕ) (n : ℕ) (ts : List Token) (G : List Class) : Type 0 where
  pub world : ClassTableHeld tab n ts G
  pub own : FoundByName G G
  pub rising : RowsRise G

-- CHILDREN

abbrev pub is_child : List ℕ → Class → Bool
is_child c k = option k.parent false λ p. same c p.text

-- the rows of the classes of a list that extend the one named c
unfoldable pub child_rows : List ℕ → List Class → List ℕ
child_rows c [] = []
child_rows c (k ∷ ks) = if is_child c k then (λ _. name_row k ∷ child_rows c ks) otherwise λ _. child_rows c ks

-- these rows lead to one another
pub data RowsLinked (next : List ℕ) : ℕ → List ℕ → Type 0 where
  linked-end : {row : ℕ} → absent ≤ row → RowsLinked next row []
  linked-more : {row after : ℕ} {rows : List ℕ} → row < absent → get_or next row 0 ≡ after → RowsLinked next after rows
      → RowsLinked next row (row ∷ rows)

-- of each class of a table, the children among ks
abbrev pub ChildrenListed : (first next : List ℕ) (G ks : List Class) → Type 0
ChildrenListed first next G ks = All (λ (q : Class). RowsLinked next (get_or first (name_row q) 0) (child_rows (class_name q) ks)) G

-- a row joins the list of a parent, before the others
pub record ChildJoined (parent row : ℕ) (first next first' next' : List ℕ) : Type 0 where
  pub is-parent : parent < length first
  pub is_row : row < length next
  pub head : first' ≡ set first parent row
  pub link : next' ≡ set next row (get_or first parent 0)

-- no class has a child yet, and none may stand
pub record Empty (tree first : List ℕ) : Type 0 where
  pub none_kept : Keeps tree (λ row. false)
  pub none-listed : (row : ℕ) → row < absent → get_or first row 0 ≡ absent

pub record Gathered (tab : List ℕ) (left row : ℕ) (tree₀ first₀ tree first next : List ℕ) : Type 0 where
  pub says : Empty tree₀ first₀ → (n : ℕ) (ts : List Token) (G : List Class) → Tabled tab n ts G
      → (ks : List Class) → ClassesAt tab n ts ks left row → RowsRise ks → Keeps tree (standing [] ks) × ChildrenListed first next G ks

-- a row stands in a list
unfoldable pub elem : ℕ → List ℕ → Bool
elem row [] = false
elem row (r ∷ rs) = eqb r row || elem row rs

pub record Freed (next : List ℕ) (left row : ℕ) (before after : List ℕ) : Type 0 where
  pub says : (rows : List ℕ) → RowsLinked next row rows → length rows ≤ left → (S : ℕ → Bool) → Keeps before S
      → Keeps after (λ r. elem r rows || S r)

-- THE STRIP

-- a list with others written into it, from place i on
unfoldable pub overwritten : ℕ → List ℕ → List ℕ → List ℕ
overwritten i [] l = l
overwritten i (p ∷ ps) l = overwritten (i + 1) ps (set l i p)

-- the parent of a written class is written
abbrev pub ParentsWritten : (written G : List Class) → Type 0
ParentsWritten w G = All (λ (j : Class). among (class_name j) w ≡ true → (option j.parent true λ p. among p.text w) ≡ true) G

-- r is how many of the `left` places no class may take
pub record StripWritten (tab tree first next : List ℕ) (i left : ℕ) (before after : List ℕ) (r : ℕ) : Type 0 where
  pub says : (n : ℕ) (ts : List Token) (G : List Class) → Tabled tab n ts G → ChildrenListed first next G G
      → (w : List Class) → ParentsWritten w G → Keeps tree (standing w G)
      → (after ≡ overwritten i (positions (writing left G w)) before) × (r + length (writing left G w) ≡ left)

-- the code's answer as document 01 counts it: of an accepted source 0 and the number of its classes, of a refused one the refusal
abbrev pub menu_answer_of : Result ℕ Refusal → CheckAnswer
menu_answer_of (Ok classes) = record { number = success; position = 0; classes = classes }
menu_answer_of (Err q) = check_refusal (number_of q.reason) q.position

-- the code's answer, and the strip
abbrev pub listing_of : Result ℕ Refusal → List ℕ → Listing
listing_of a strip = record { answer = menu_answer_of a; strip = strip }

-- these for an accepted program
pub record FillsStrip (tab : List ℕ) (classes : ℕ) (before : List ℕ) (l : Listing) : Type 0 where
  pub says : (n : ℕ) (ts : List Token) (p : Program) → Ready tab n ts p → DerivesProgram ts p → ProgramTyped p
      → length p.classes ≡ classes → l ≡ listing (accepted p) before
