-- A typed program with classes behind its own runs as it does alone, under all limits and with every tape. The whole need not be typed:
-- a typed state is not stuck, so what it asks for is the same over both tables.
use Prim.Native.Nat.{ℕ, zero, suc, ◌+◌, ◌*◌}
use Rattle.std.specs.Prelude.{◌≡◌, List, ◌++◌}
use Rattle.std.proofs.Math.Path.{refl, ap}
use Rattle.std.proofs.Common.{◌∙◌}
use Rattle.base.specs.All.{All}
use Rattle.device.specs.Device.{IsByte}
use Rattle.device.specs.laws.ByteLaws.{HoldsBytes, reset-bytes}
use Rattle.parser.specs.Tree.{Class, Program}
use Rattle.typesystem.specs.TypingRules.{ClassTyped, ProgramTyped}
use Rattle.typing.specs.laws.Programs.{table-acyclic}
use Rattle.semantics.specs.Machine.{Core, Request, plan, start}
use Rattle.semantics.specs.Limits.{Limits, Meters, begun, Progress, next, stop, guard, Report, size_of, after, run_with, run}
use Rattle.soundness.specs.laws.StateTyping.{MethodFits, LiteralsFit, StateTyped, Asks}
use Rattle.soundness.specs.laws.Soundness.{sound, Safe, start-typed, turn-safe}
use Rattle.appended.proofs.laws.Requests.{◌≼◌, was-stuck, alike, plan-kept}

same_asked : (G : List Class) {r q : Request Core} → r ≼ q → Asks G r → q ≡ r
same_asked G was-stuck h = absurd h
same_asked G alike h = refl

after_same : (G : List Class) (j k : Core → Meters → Report) (c : Core) (m : Meters)
    → ((d : Core) (n : Meters) → StateTyped G d → HoldsBytes n.device → j d n ≡ k d n)
    → (o : Progress Core) → Safe G o → after size_of j c m o ≡ after size_of k c m o
after_same G j k c m f (next d n) h = f d n h.0 h.1
after_same G j k c m f (stop e) h = refl

module _ {G : List Class} (H : List Class) (T : All (ClassTyped G) G) (F : All (λ k. All MethodFits k.methods) G) (L : Limits) where
  runs_same : (f : ℕ) (c : Core) (m : Meters) → StateTyped G c → HoldsBytes m.device
      → run_with (plan (G ++ H)) size_of L f c m ≡ run_with (plan G) size_of L f c m
  unfolding run_with
  runs_same zero c m h b = refl
  runs_same (suc f) c m h b =
      let j : Core → Meters → Report = λ d n. run_with (plan (G ++ H)) size_of L f d n in
      let k : Core → Meters → Report = λ d n. run_with (plan G) size_of L f d n in
      ap (λ (r : Request Core). after size_of j c m (guard L m r)) (same_asked G (plan-kept G H (table-acyclic T) c) (sound T F h))
      ∙ after_same G j k c m (λ d n t q. runs_same f d n t q) (guard L m (plan G c)) (turn-safe T F L c m h b)

-- q begins with p: the same statement of main, and p's classes are the first of q's
pub record BeginsWith (p q : Program) : Type 0 where
  pub statement : q.statement ≡ p.statement
  pub more : List Class
  pub classes : q.classes ≡ p.classes ++ more

pub appended-same : (p q : Program) (L : Limits) (tape : List ℕ) → All IsByte tape → ProgramTyped p → LiteralsFit p → BeginsWith p q
    → run q L tape ≡ run p L tape
unfolding run
appended-same p q L tape b P F B =
    rw (B.classes, B.statement)
    (runs_same B.more P.classes F.classes L (4 * L.budget + 4) (start p) (begun tape) (start-typed p P F) (reset-bytes b))
