-- What a call of Run says of the machine's run: where no argument is refused and the lesson is accepted, the answer is the one that reports
-- the run, and the numbers that lead the output strip are those that the run prints.
use Rattle.std.specs.Prelude.{ℕ, ◌≡◌, ◌⊎◌, List, length, take, drop}
use Rattle.std.proofs.Common.{sym, ap, ◌∙◌}
use Rattle.std.proofs.Math.Path.{subst}
use Rattle.std.proofs.Math.Option.{Option, none}
use Rattle.std.proofs.Math.Seq.{take-append_seam}
use Rattle.base.specs.Choice.{option}
use Rattle.base.specs.Outcome.{Outcome, accepted}
use Rattle.parser.specs.Tree.{Program}
use Rattle.typesystem.specs.Check.{checking}
use Rattle.semantics.specs.Limits.{ended, Report, run}
use Rattle.semantics.specs.Run.{RunAnswer, Strips, limits_of_lem, unfit, Reports, RunMeets, refusal, Runs}
use Rattle.soundness.specs.Results.{Finish, ByLimit, EndsWell}

-- a report has one answer
pub one_answer : {r r' : Report} {a a' : RunAnswer} → r' ≡ r → Reports r a → Reports r' a' → a' ≡ a
one_answer {a = a} {a' = a'} e R R' =
    let q : ended a'.number a'.position ≡ ended a.number a.position =
    sym R'.ending ∙ ap (λ (x : Report). x.ending) e ∙ R.ending in
    let n : a'.number ≡ a.number = cc in
    let i : a'.position ≡ a.position = cc in
    λ j. record {
      number = n j;
      position = i j;
      steps = (R'.steps ∙ ap (λ (x : Report). x.steps) e ∙ sym R.steps) j;
      climbs = (R'.climbs ∙ ap (λ (x : Report). x.climbs) e ∙ sym R.climbs) j;
      words = (R'.words ∙ ap (λ (x : Report). x.words) e ∙ sym R.words) j;
      printed = (R'.printed ∙ ap (λ (x : Report). length x.printed) e ∙ sym R.printed) j;
    }

-- one of the ten numbers, where the run ends well
pub ends_as : {r : Report} {a : RunAnswer} → EndsWell r.ending → Reports r a → Finish a.number ⊎ ByLimit a.number
ends_as {a = a} e R =
    let q : ended e.number e.position ≡ ended a.number a.position = sym e.is ∙ R.ending in
    let n : e.number ≡ a.number = cc in
    subst (λ k. Finish k ⊎ ByLimit k) n e.cause

module _ (p : Program) (budget calls : ℕ) (tape : List ℕ) (before : Strips) (a : RunAnswer) (after : Strips) where
  -- an accepted lesson is run where no argument is refused
  pub meets : (s : List ℕ) → checking s ≡ accepted p → unfit calls before ≡ none → Runs s budget calls tape before a after
      → RunMeets (accepted p) budget calls tape before a after
  unfolding Runs
  meets s found u R =
      let M : Outcome Program → Type 0 = λ v. RunMeets v budget calls tape before a after in
      let m : M (checking s) = subst (λ (x : Option ℕ). option x (M (checking s)) λ n. (a ≡ refusal n 0) × (after ≡ before)) u R in
      subst M found m

  -- the numbers that lead the output strip are those that the run prints
  pub shown-is : RunMeets (accepted p) budget calls tape before a after
      → take a.printed after.output ≡ (run p (limits_of_lem budget calls before) tape).printed
  shown-is R =
      let o = (run p (limits_of_lem budget calls before) tape).printed in
      ap (λ (n : ℕ). take n after.output) R.0.printed ∙ ap (λ (m : Strips). take (length o) m.output) R.1
      ∙ take-append_seam o (drop (length o) before.output)

  -- the register strip holds the registers of the run
  pub registers-are : RunMeets (accepted p) budget calls tape before a after
      → after.registers ≡ (run p (limits_of_lem budget calls before) tape).registers
  registers-are R = ap (λ (m : Strips). m.registers) R.1
