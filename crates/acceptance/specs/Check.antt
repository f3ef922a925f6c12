-- Document 01, "What each operation refuses", Check: the operation answers 0 exactly when document 01's grammar, bounds and typing rules
-- allow the lesson. It holds by demand 2 (Accepted), since no refusal has the number 0 (Refusals).
use Rattle.std.specs.Prelude.{ℕ, ◌≤◌, ◌<◌, ◌≡◌, List, ◌↔◌, length, replicate}
use Rattle.std.proofs.Math.Path.{refl}
use Rattle.std.proofs.Common.{sym, ap, ◌∙◌, lt-ltb, le-ltb}
use Rattle.base.specs.Codes.{success, table_too_short, table_least}
use Rattle.base.specs.Outcome.{Outcome, accepted, refused}
use Rattle.parser.specs.Tree.{Program}
use Rattle.parser.specs.Read.{table_after}
use Rattle.typesystem.specs.Check.{checking, CheckAnswer, check_refusal, check_answer, check, Checks}
use Rattle.acceptance.specs.Numbers.{CheckRefusal}
use Rattle.acceptance.specs.Refusals.{check-refusal, not-success}
use Rattle.acceptance.specs.Accepted.{Allowed, allowed, allowed-accepted}

-- what is right to answer: 0 and the number of classes for a lesson that is allowed; else one of Check's refusals, with its number and
-- position
pub data Answers (s : List ℕ) : CheckAnswer → Type 0 where
  succeeds : {p : Program} → Allowed s p → Answers s (record { number = success; position = 0; classes = length p.classes })
  refuses : {n q : ℕ} → CheckRefusal n → checking s ≡ refused n q → Answers s (check_refusal n q)

-- THE OPERATION

-- 1: table under 16,384 words, which touches nothing.
pub check-table-short : {s before : List ℕ} {a : CheckAnswer} {after : List ℕ} → Checks s before a after → length before < table_least
    → (a ≡ check_refusal table_too_short 0) × (after ≡ before)
unfolding check table_after
check-table-short {before = before} C l =
    let e = lt-ltb (length before) table_least l in
    (C.answer ∙ rw e refl, C.table ∙ rw e refl)

-- with a work table of at least 16,384 words
module _ {s before : List ℕ} {a : CheckAnswer} {after : List ℕ} (C : Checks s before a after) (room : table_least ≤ length before) where
  answer-of : a ≡ check_answer (checking s)
  unfolding check
  answer-of = C.answer ∙ rw (le-ltb (length before) table_least room) refl

  number_of : (o : Outcome Program) → checking s ≡ o → a.number ≡ (check_answer o).number
  number_of o e = ap (λ (x : CheckAnswer). x.number) answer-of ∙ ap (λ o. (check_answer o).number) e

  -- It answers 0 exactly when the lesson is allowed.
  pub check-succeeds : (a.number ≡ success) ↔ ((p : Program) × Allowed s p)
  check-succeeds = (
    λ e. by (checking s) refl (sym (number_of (checking s) refl) ∙ e),
    λ h. number_of (accepted h.0) (allowed-accepted s h.0 h.1),
  )
    where
      by : (o : Outcome Program) → checking s ≡ o → (check_answer o).number ≡ success → (p : Program) × Allowed s p
      by (accepted p) e n = (p, allowed s p e)
      by (refused n q) e m = absurd (not-success (check-refusal s n q e) m)

  -- Every answer is right, and every word of the work table is 0 then.
  pub check-answers : Answers s a × (after ≡ replicate (length before) 0)
  unfolding table_after
  check-answers = (rw answer-of (by (checking s) refl), C.table ∙ rw (le-ltb (length before) table_least room) refl)
    where
      by : (o : Outcome Program) → checking s ≡ o → Answers s (check_answer o)
      by (accepted p) e = succeeds (allowed s p e)
      by (refused n q) e = refuses (check-refusal s n q e) e
