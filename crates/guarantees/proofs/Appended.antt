-- Document 02, (xi): "Shown for every accepted lesson: if class declarations are appended and the whole is accepted too, a run under equal
-- limits gives equal results, positions, steps, words, climbs and printed numbers. Both runs get the same tape." The appended bytes may be
-- any (`run-appended`), so class declarations too (`classes-appended`). It holds since the tokens of the lesson stay what they were, and
-- what a typed state asks for it asks for over every longer class table (appended/laws).
use Rattle.std.specs.Prelude.{ℕ, ◌≡◌, List, ◌++◌, ◌↔◌}
use Rattle.std.proofs.Common.{sym, ap, ◌∙◌}
use Rattle.std.proofs.Math.Path.{subst}
use Rattle.base.specs.All.{All}
use Rattle.base.specs.Choice.{option}
use Rattle.base.specs.Outcome.{Outcome}
use Rattle.device.specs.Device.{IsByte}
use Rattle.parser.specs.Tree.{Program}
use Rattle.typesystem.specs.Check.{checking}
use Rattle.acceptance.specs.Accepted.{Allowed, allowed-accepted}
use Rattle.semantics.specs.Limits.{Limits, Report, run}
use Rattle.semantics.specs.Run.{RunAnswer, Strips, limits_of_lem, unfit, Reports, after_run, refusal, RunMeets, Runs}
use Rattle.appended.specs.More.{ClassDeclarations}
use Rattle.guarantees.proofs.RunAppended.{run-appended}

-- the lesson s of the tree p, and s with t behind it, of the tree q: both are accepted
module _ (s t : List ℕ) (p q : Program) (A : Allowed s p) (B : Allowed (s ++ t) q) where
  module _ (tape : List ℕ) (bytes : All IsByte tape) where
    -- Run may answer, and leave in what was lent, for the whole just what it may for the lesson.
    pub runs-appended : (budget calls : ℕ) (before : Strips) (a : RunAnswer) (after : Strips)
        → Runs s budget calls tape before a after ↔ Runs (s ++ t) budget calls tape before a after
    unfolding Runs
    runs-appended budget calls before a after = (λ h. subst (λ (T : Type 0). T) (sym whole) h, λ h. subst (λ (T : Type 0). T) whole h)
      where
        Met : Outcome Program → Type 0
        Met v = RunMeets v budget calls tape before a after

        meets : Met (checking (s ++ t)) ≡ Met (checking s)
        meets =
            ap (λ (v : Outcome Program). RunMeets v budget calls tape before a after) (allowed-accepted (s ++ t) q B)
            ∙ ap (λ (r : Report). Reports r a × (after ≡ after_run r before)) (run-appended s t p q A B tape bytes (limits_of_lem budget calls before))
            ∙ sym (ap (λ (v : Outcome Program). RunMeets v budget calls tape before a after) (allowed-accepted s p A))

        whole : option (unfit calls before) (Met (checking (s ++ t))) (λ n. (a ≡ refusal n 0) × (after ≡ before))
            ≡ option (unfit calls before) (Met (checking s)) (λ n. (a ≡ refusal n 0) × (after ≡ before))
        whole = ap (λ (T : Type 0). option (unfit calls before) T λ n. (a ≡ refusal n 0) × (after ≡ before)) meets

-- (xi) in the request's own words.
pub classes-appended : (s t : List ℕ) (p q : Program) → Allowed s p → ClassDeclarations t → Allowed (s ++ t) q
    → (L : Limits) (tape : List ℕ) → All IsByte tape → run q L tape ≡ run p L tape
classes-appended s t p q A _ B L tape bytes = run-appended s t p q A B tape bytes L
