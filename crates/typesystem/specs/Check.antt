-- Document 01, "What each operation refuses", Check: the whole operation as a definition.
use Rattle.std.specs.Prelude.{ℕ, ◌≡◌, List, [], ◌∷◌, map, length, ltb}
use Rattle.base.specs.Choice.{if◌then◌otherwise◌}
use Rattle.base.specs.Outcome.{Outcome, accepted, refused, ◌>>=◌}
use Rattle.base.specs.Codes.{success, table_too_short, table_least}
use Rattle.parser.specs.Tree.{Method, Class, Program}
use Rattle.parser.specs.Read.{reading, table_after}
use Rattle.typesystem.specs.ClassTable.{main_context, context_of, text_of}
use Rattle.typesystem.specs.Judge.{judge, must}
use Rattle.typesystem.specs.Declarations.{distinct_classes, known_parents, ending_chains, variables, declarations}

-- BODIES: locals (24, 27 against parameters too, 28), statements, return
abbrev pub body : List Class → List ℕ → Method → Outcome (Unit {0})
body G c m =
    variables G (map text_of m.parameters) m.locals >>= λ _.
    judge G (context_of c m) m.body >>= λ _.
    judge G (context_of c m) m.value >>= λ t. must G m.value m.result.type t

unfoldable pub bodies : List Class → List ℕ → List Method → Outcome (Unit {0})
bodies G c [] = accepted tt
bodies G c (m ∷ ms) = body G c m >>= λ _. bodies G c ms

unfoldable pub class_bodies : List Class → List Class → Outcome (Unit {0})
class_bodies G [] = accepted tt
class_bodies G (k ∷ ks) = bodies G k.name.text k.methods >>= λ _. class_bodies G ks

-- main first
unfoldable pub all_bodies : Program → Outcome (Unit {0})
all_bodies p = judge p.classes main_context p.statement >>= λ _. class_bodies p.classes p.classes

-- 20, then 21, then 22, then class by class, then the bodies
unfoldable pub judged : Program → Outcome Program
judged p =
    let G = p.classes in
    distinct_classes (p.main.text ∷ []) G >>= λ _.
    known_parents G G >>= λ _.
    ending_chains G G >>= λ _.
    declarations G G >>= λ _.
    all_bodies p >>= λ _. accepted p

-- WHAT CHECK FINDS IN A SOURCE: the tree of an accepted one, or a refusal's number and position. Read's refusals come first.
unfoldable pub checking : List ℕ → Outcome Program
checking s = reading s >>= λ r. judged r.tree

-- CHECK'S ANSWER
pub record CheckAnswer : Type 0 where
  pub number : ℕ
  pub position : ℕ
  pub classes : ℕ

abbrev pub check_refusal : (number position : ℕ) → CheckAnswer
check_refusal number position = record { number = number; position = position; classes = 0 }

abbrev pub check_answer : Outcome Program → CheckAnswer
check_answer (accepted p) = record { number = success; position = 0; classes = length p.classes }
check_answer (refused n p) = check_refusal n p

unfoldable pub check : List ℕ → (table : ℕ) → CheckAnswer
check s table = if ltb table table_least then (λ _. check_refusal table_too_short 0) otherwise λ _. check_answer (checking s)

-- the answer and the work table that are right for a source and what the work table held before
pub record Checks (s before : List ℕ) (a : CheckAnswer) (after : List ℕ) : Type 0 where
  pub answer : a ≡ check s (length before)
  pub table : after ≡ table_after before
