-- What a result tells of a stage's outcome.
use Rattle.std.specs.Prelude.{ℕ, ◌≡◌, List, Result, Ok, Err}
use Rattle.base.specs.Outcome.{Outcome, accepted, refused, ◌>>=◌}
use Rattle.base.specs.declared.refusal.Refusal.{Refusal}
use Rattle.base.specs.promises.Refusals.{number_of, outcome}
use Rattle.lexer.specs.Tokens.{Token}
use Rattle.parser.specs.Tree.{Ty}
use Rattle.lookup.specs.promises.HeldClasses.{Codes}

-- the result of judging what has no type, and of judging an expression: the number of its type
abbrev pub Judged : Type 0
Judged = Result (Unit {0}) Refusal

abbrev pub Typed : Type 0
Typed = Result ℕ Refusal

-- the outcome that a result tells
abbrev pub told : Judged → Outcome (Unit {0})
told r = outcome (λ u. u) r

pub told-fine : {o : Outcome (Unit {0})} {v : Judged} → told v ≡ o → v ≡ Ok tt → o ≡ accepted tt
told-fine e f = rw (← e, f)

pub told-refused : {o : Outcome (Unit {0})} {v : Judged} {q : Refusal} → told v ≡ o → v ≡ Err q → o ≡ refused (number_of q.reason) q.position
told-refused e f = rw (← e, f)

-- a stage and the next
module _ {A : Type 0} (o : Outcome (Unit {0})) (next : Unit {0} → Outcome A) {v : Judged} (e : told v ≡ o) where
  pub goes_on : v ≡ Ok tt → (o >>= next) ≡ next tt
  goes_on f = rw (told-fine e f)

  pub stops : {q : Refusal} → v ≡ Err q → (o >>= next) ≡ refused (number_of q.reason) q.position
  stops f = rw (told-refused e f)

-- how the type of an expression is answered
pub data Judges (ts : List Token) : Outcome Ty → Typed → Type 0 where
  well : {t : Ty} {w : ℕ} → Codes ts t w → Judges ts (accepted t) (Ok w)
  ill : {q : Refusal} → Judges ts (refused (number_of q.reason) q.position) (Err q)
