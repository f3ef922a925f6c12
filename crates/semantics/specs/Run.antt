-- Document 01, "What each operation refuses", Run, with the register strip and the tape of document 02, (viii): the whole operation as a
-- definition.
use Rattle.std.specs.Prelude.{ℕ, ◌≡◌, List, [], ◌++◌, ◌||◌, not, length, drop, replicate, eqb, ltb, ℤ, pos}
use Rattle.std.proofs.Math.Option.{Option, none, some}
use Rattle.base.specs.Choice.{if◌then◌otherwise◌, option}
use Rattle.base.specs.Outcome.{Outcome, accepted, refused}
use Rattle.base.specs.Codes.{table_too_short, table_least, call_limit_out_of_range, calls_most, heap_too_long, heap_most}
use Rattle.base.specs.Codes.{registers_not_sixteen, registers_count}
use Rattle.parser.specs.Tree.{Program}
use Rattle.typesystem.specs.Check.{checking}
use Rattle.semantics.specs.Limits.{Limits, ended, Report, run}

pub record RunAnswer : Type 0 where
  pub number : ℕ
  pub position : ℕ
  pub steps : ℕ
  pub climbs : ℕ
  pub words : ℕ
  pub printed : ℕ

-- what is lent: the work table, the heap strip, the output strip and the register strip
pub record Strips : Type 0 where
  pub table : List ℕ
  pub heap : List ℤ
  pub output : List ℤ
  pub registers : List ℕ

abbrev pub limits_of_lem : (budget calls : ℕ) → Strips → Limits
limits_of_lem budget calls m = record { budget = budget; calls = calls; heap = length m.heap; printed = length m.output }

-- refusals 1, 2, 3 and 62
abbrev pub unfit : (calls : ℕ) → Strips → Option ℕ
unfit calls m =
    if ltb (length m.table) table_least then (λ _. some table_too_short) otherwise λ _.
    if eqb calls 0 || ltb calls_most calls then (λ _. some call_limit_out_of_range) otherwise λ _.
    if ltb heap_most (length m.heap) then (λ _. some heap_too_long) otherwise λ _.
    if not (eqb (length m.registers) registers_count) then (λ _. some registers_not_sixteen) otherwise λ _.
    none

-- the strips after every other end: work table and heap strip all 0; printed numbers lead the output strip, the rest of it unchanged; and
-- what the register strip holds
abbrev pub strips_after : (printed : List ℤ) → (registers : List ℕ) → Strips → Strips
strips_after printed registers m =
    record {
      table = replicate (length m.table) 0;
      heap = replicate (length m.heap) (pos 0);
      output = printed ++ drop (length printed) m.output;
      registers = registers;
    }

-- a refusal gives zero counts
abbrev pub refusal : (number position : ℕ) → RunAnswer
refusal number position = record { number = number; position = position; steps = 0; climbs = 0; words = 0; printed = 0 }

-- all ends of a run give steps, climbs, heap words and the printed count. No answer stands for a run that got stuck.
pub record Reports (r : Report) (a : RunAnswer) : Type 0 where
  pub ending : r.ending ≡ ended a.number a.position
  pub steps : a.steps ≡ r.steps
  pub climbs : a.climbs ≡ r.climbs
  pub words : a.words ≡ r.words
  pub printed : a.printed ≡ length r.printed

-- the strips after a run
abbrev pub after_run : Report → Strips → Strips
after_run r m = strips_after r.printed r.registers m

-- the answer and the strips that are right for what Check finds; a refusal leaves the register strip unchanged
abbrev pub RunMeets : Outcome Program → (budget calls : ℕ) → (tape : List ℕ) → Strips → RunAnswer → Strips → Type 0
RunMeets (accepted p) budget calls tape before a after =
    Reports (run p (limits_of_lem budget calls before) tape) a × (after ≡ after_run (run p (limits_of_lem budget calls before) tape) before)
RunMeets (refused n p) budget calls tape before a after = (a ≡ refusal n p) × (after ≡ strips_after [] before.registers before)

-- the answer and the strips that are right for a source, a budget, a call limit, a tape and what the strips held before
unfoldable pub Runs : List ℕ → (budget calls : ℕ) → (tape : List ℕ) → (before : Strips) → RunAnswer → (after : Strips) → Type 0
Runs s budget calls tape before a after =
    option (unfit calls before) (RunMeets (checking s) budget calls tape before a after) λ n. (a ≡ refusal n 0) × (after ≡ before)
