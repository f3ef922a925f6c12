-- The states that a run goes through. Every one of a typed program is typed: the first is, and each turn leads from a typed state to
-- another. And the device holds bytes, where the tape does.
use Rattle.std.specs.Prelude.{◌≡◌, ℕ, List}
use Rattle.std.proofs.Common.{subst}
use Rattle.base.specs.All.{All}
use Rattle.device.specs.Device.{IsByte}
use Rattle.device.specs.laws.ByteLaws.{HoldsBytes, reset-bytes}
use Rattle.parser.specs.Tree.{Program}
use Rattle.typesystem.specs.TypingRules.{ProgramTyped}
use Rattle.semantics.specs.Machine.{Core, plan, start}
use Rattle.semantics.specs.Limits.{Limits, Meters, begun, next, guard}
use Rattle.soundness.specs.laws.StateTyping.{LiteralsFit, StateTyped}
use Rattle.soundness.specs.laws.Soundness.{Safe, start-typed, turn-safe}

pub data Reach (p : Program) (L : Limits) (tape : List ℕ) : Core → Meters → Type 0 where
  reach-start : Reach p L tape (start p) (begun tape)
  reach-next : {c d : Core} {m n : Meters} → Reach p L tape c m → guard L m (plan p.classes c) ≡ next d n → Reach p L tape d n

module _ {p : Program} {L : Limits} {tape : List ℕ} (P : ProgramTyped p) (F : LiteralsFit p) (B : All IsByte tape) where
  reach-both : {c : Core} {m : Meters} → Reach p L tape c m → StateTyped p.classes c × HoldsBytes m.device
  reach-both reach-start = (start-typed p P F, reset-bytes B)
  reach-both (reach-next {c = c} {m = m} r e) =
      let h = reach-both r in
      subst (Safe p.classes) e (turn-safe P.classes F.classes L c m h.0 h.1)

  pub reach-typed : {c : Core} {m : Meters} → Reach p L tape c m → StateTyped p.classes c
  reach-typed r = (reach-both r).0

  pub reach-bytes : {c : Core} {m : Meters} → Reach p L tape c m → HoldsBytes m.device
  reach-bytes r = (reach-both r).1
