-- What the functions of Run ensure.
use Rattle.std.specs.Prelude.{ℕ, ◌*◌, ◌≤◌, ◌<◌, ◌≡◌, List, ◌++◌, length, drop, replicate, ℤ, pos, Option, Some, None}
use Rattle.base.specs.Outcome.{Outcome, accepted, refused}
use Rattle.parser.specs.Tree.{Program}
use Rattle.typesystem.specs.Check.{checking}
use Rattle.typecheck.specs.promises.CheckPost.{found}
use Rattle.typecheck.specs.promises.CheckPost.{Leaves}
use Rattle.semantics.specs.Limits.{run}
use Rattle.semantics.specs.Run.{Strips, refusal, Reports}
use Rattle.semantics.specs.Run as Run
use Rattle.lookup.specs.declared.sizes.Sizes.{Sizes}
use Rattle.interpreter.specs.declared.state.Bounds.{Bounds}
use Rattle.interpreter.specs.promises.Running.{limits_under, Roomy}
use Rattle.runner.specs.declared.run.RunAnswer.{RunAnswer}

-- the code's answer as document 01 counts it
abbrev pub run_answer_of : RunAnswer → Run.RunAnswer
run_answer_of a =
    record { number = a.number; position = a.position; steps = a.steps; climbs = a.climbs; words = a.words; printed = a.printed }

abbrev pub strips : (table : List ℕ) (heap output : List ℤ) (registers : List ℕ) → Strips
strips t h o g = record { table = t; heap = h; output = o; registers = g }

-- the two strips that hold something after a run
pub record ResultStrips : Type 0 where
  pub output : List ℤ
  pub registers : List ℕ

abbrev pub result_strips : List ℤ → List ℕ → ResultStrips
result_strips o g = record { output = o; registers = g }

-- the answer, the output strip and the register strip that are right for what Check finds
abbrev pub Performs : Outcome Program → Bounds → (tape : List ℕ) → (heap : List ℤ) → ResultStrips → Run.RunAnswer → ResultStrips → Type 0
Performs (accepted p) b tape heap z a z' =
    let r = run p (limits_under b heap z.output) tape in
    Reports r a × (z'.output ≡ r.printed ++ drop (length r.printed) z.output) × (z'.registers ≡ r.registers)
Performs (refused n p) b tape heap z a z' = (a ≡ refusal n p) × (z'.output ≡ z.output) × (z'.registers ≡ z.registers)

-- an accepted lesson that Check left in the table is run
pub record Completes (tab : List ℕ) (s : Sizes) (b : Bounds) (tape : List ℕ) (heap : List ℤ) (z : ResultStrips) (a : Run.RunAnswer)
    (z' : ResultStrips) : Type 0 where
  pub says : (source : List ℕ) → Leaves source (checking source) (found s.tokens s.classes) tab
      → Performs (checking source) b tape heap z a z'

-- the same in this room for its code, its joined code and its values, where that is enough; an instruction is four words
pub record CompletesInRoom (tab code fast values : List ℕ) (s : Sizes) (b : Bounds) (tape : List ℕ) (heap : List ℤ)
    (z : ResultStrips) (a : Run.RunAnswer) (z' : ResultStrips) : Type 0 where
  pub says : 16 * s.tokens ≤ length code → Roomy s.tokens b.calls fast values → Completes tab s b tape heap z a z'

-- the accepted lesson of these sizes that Check left in the table
pub record LeftByCheck (source : List ℕ) (known : Option Sizes) (tab : List ℕ) : Type 0 where
  pub says : (s : Sizes) → known ≡ Some s → Leaves source (checking source) (found s.tokens s.classes) tab

-- what is right for what Check finds is performed; the call that checks clears the table and the heap strip
pub record Performed (source : List ℕ) (known : Option Sizes) (b : Bounds) (tape table : List ℕ) (heap : List ℤ) (z : ResultStrips) (a : Run.RunAnswer)
    (table' : List ℕ) (heap' : List ℤ) (z' : ResultStrips) : Type 0 where
  pub performs : Performs (checking source) b tape heap z a z'
  pub clears : known ≡ None → (table' ≡ replicate (length table) 0) × (heap' ≡ replicate (length heap) (pos 0))
