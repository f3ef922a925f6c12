-- Document 01, "What each operation refuses", Menu, in the order of document 02, (ii): the whole operation as a definition.
use Rattle.std.specs.Prelude.{ℕ, zero, suc, ◌≡◌, List, [], ◌∷◌, ◌++◌, map, Bool, true, ◌&&◌, not, length, drop, ltb}
use Rattle.std.proofs.Math.Option.{Option, none, some}
use Rattle.base.specs.Choice.{if◌then◌otherwise◌, option}
use Rattle.base.specs.Outcome.{Outcome, accepted, refused}
use Rattle.base.specs.Codes.{table_too_short, table_least, strip_too_short}
use Rattle.parser.specs.Tree.{Class, Program}
use Rattle.parser.specs.Read.{table_after}
use Rattle.typesystem.specs.ClassTable.{among}
use Rattle.typesystem.specs.Check.{CheckAnswer, check_refusal, check_answer, checking}

-- THE ORDER: again and again, the unwritten class earliest in the lesson whose parent is already written or absent

unfoldable pub may_stand : (written : List Class) → Class → Bool
may_stand written k = not (among k.name.text written) && option k.parent true λ p. among p.text written

unfoldable pub earliest : (written : List Class) → List Class → Option Class
earliest written [] = none
earliest written (k ∷ ks) = if may_stand written k then (λ _. some k) otherwise λ _. earliest written ks

-- what is written after `written`, at most so many classes
unfoldable pub writing : (most : ℕ) → List Class → (written : List Class) → List Class
writing zero G written = []
writing (suc n) G written = option (earliest written G) [] λ k. k ∷ writing n G (written ++ k ∷ [])

unfoldable pub menu_order : List Class → List Class
menu_order G = writing (length G) G []

-- THE OPERATION

-- the positions of the names of classes
unfoldable pub positions : List Class → List ℕ
positions ks = map (λ k. k.name.start) ks

-- Menu's answer and the strip afterwards
pub record Listing : Type 0 where
  pub answer : CheckAnswer
  pub strip : List ℕ

abbrev pub listing : Outcome Program → (before : List ℕ) → Listing
listing (accepted p) before =
    if ltb (length before) (length p.classes) then (λ _. record { answer = check_refusal strip_too_short 0; strip = before }) otherwise λ _.
    record { answer = check_answer (accepted p); strip = positions (menu_order p.classes) ++ drop (length p.classes) before }
listing (refused n p) before = record { answer = check_refusal n p; strip = before }

unfoldable pub menu : List ℕ → (table : ℕ) → (before : List ℕ) → Listing
menu s table before =
    if ltb table table_least then (λ _. record { answer = check_refusal table_too_short 0; strip = before }) otherwise λ _.
    listing (checking s) before

-- the answer, the work table and the strip that are right for a source and what the work table and the strip held before
pub record Menus (s table before : List ℕ) (a : CheckAnswer) (tableExit after : List ℕ) : Type 0 where
  pub answer : record { answer = a; strip = after } ≡ menu s (length table) before
  pub cleared : tableExit ≡ table_after table
