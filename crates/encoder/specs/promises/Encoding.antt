-- The operation: what its functions promise one another.
use Rattle.std.specs.Prelude.{ℕ, ◌≡◌, List, length, get_or, Result}
use Rattle.std.proofs.Math.Option.{some}
use Rattle.std.proofs.Math.ListN.{get_elem?}
use Rattle.base.specs.All.{All}
use Rattle.base.specs.Outcome.{accepted}
use Rattle.lexer.specs.Tokens.{Token}
use Rattle.lexer.specs.promises.Rows.{first_named}
use Rattle.parser.specs.Tree.{Program}
use Rattle.lookup.specs.promises.HeldClasses.{NameNumber}
use Rattle.typecheck.specs.promises.CheckPost.{found, Checked}
use Rattle.codegen.specs.promises.Compile.{compile}
use Rattle.frames.specs.Encode.{method_names, frames_of}
use Rattle.base.specs.Write.{WriteResult}
use Rattle.base.specs.promises.Answers.{write_result_of}
use Rattle.frames.specs.Operations.{encode_result}
use Rattle.encoder.specs.declared.plan.Plan.{Plan}
use Rattle.base.specs.declared.refusal.Refusal.{Refusal}
use Rattle.encoder.specs.promises.Strip.{Puts}
use Rattle.encoder.specs.promises.Frames.{Placed, HeldFrom, NumbersHeld}
use Rattle.encoder.specs.promises.Tables.{rows_for, Lesson}

-- what the arrays of a pass hold of a lesson
pub record Whole (tab code entries classes marks names : List ℕ) (p : Plan) (ts : List Token) (g : Program) : Type 0 where
  pub lesson : Lesson tab entries p ts g
  pub numbers : NumbersHeld (first_named ts) (compile g) classes marks p
  pub placed : All Placed (compile g).instructions
  pub held : HeldFrom code (first_named ts) 0 (compile g).instructions
  pub methods : p.methods ≡ length (method_names (rows_for g))
  pub listed : (i : ℕ) (m : List ℕ) → get_elem? (method_names (rows_for g)) i ≡ some m → NameNumber ts m (get_or names i 0)

pub record PassPost (tab code entries classes marks names : List ℕ) (p : Plan) (before after : List ℕ) (r : ℕ) : Type 0 where
  pub says : (ts : List Token) (g : Program) → Whole tab code entries classes marks names p ts g → Puts 0 (frames_of (compile g)) before after r

-- a pass that counts, and where the strip is long enough one that writes
pub record BothPost (tab code entries classes marks names : List ℕ) (p : Plan) (before after : List ℕ) (r : Result ℕ Refusal) : Type 0 where
  pub says : (ts : List Token) (g : Program) → Whole tab code entries classes marks names p ts g
      → write_result_of r after ≡ encode_result (accepted g) before

-- those for an accepted program
pub record WritesFrames (tab : List ℕ) (tokens many : ℕ) (before : List ℕ) (w : WriteResult) : Type 0 where
  pub says : (s : List ℕ) (g : Program) → Checked s g (found tokens many) tab → w ≡ encode_result (accepted g) before
