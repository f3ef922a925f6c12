-- The operations of document 02, (xii) and (xiii), as definitions: answer, record and every strip afterwards, for all inputs.
use Rattle.std.specs.Prelude.{ℕ, ◌+◌, ◌-◌, List, ◌≡◌, Bool, ◌||◌, ◌&&◌, not, length, replicate, ltb, leb, eqb, ℤ, pos}
use Rattle.std.proofs.Math.Option.{Option, none, some}
use Rattle.base.specs.Choice.{if◌then◌otherwise◌, option}
use Rattle.base.specs.Outcome.{Outcome, accepted, refused, ◌>>=◌}
use Rattle.base.specs.Write.{WriteAnswer, WriteResult, write_refusal, write_result}
use Rattle.base.specs.Codes.{table_too_short, table_least, call_limit_out_of_range, calls_most, heap_too_long, heap_most, budget_spent}
use Rattle.base.specs.Codes.{registers_not_sixteen, registers_count}
use Rattle.device.specs.Device.{registers}
use Rattle.parser.specs.Tree.{Program}
use Rattle.parser.specs.Read.{table_after}
use Rattle.typesystem.specs.Check.{checking}
use Rattle.codegen.specs.promises.Compile.{compile}
use Rattle.base.specs.Codes.{frames_too_short, record_unfit, price_unfit}
use Rattle.device.specs.Device.{device_in}
use Rattle.frames.specs.Numbers.{stack_least, budget_most, values_from}
use Rattle.frames.specs.Lines.{Line, lines, text}
use Rattle.frames.specs.Machine.{State, Around}
use Rattle.frames.specs.Parts as Parts
use Rattle.frames.specs.Parts.{run_frames}
use Rattle.frames.specs.Encode.{frames_of}

-- THE WRITER

-- the frames of a program, as bytes
unfoldable pub frames_text : Program → List ℕ
frames_text p = text (frames_of (compile p))

-- "68: frame .. strip too short, after Check's refusals in the writer"; "its rest and all of it on refusal unchanged, and gives the bytes
-- written"
abbrev pub encode_result : Outcome Program → (before : List ℕ) → WriteResult
encode_result o before = write_result frames_too_short (o >>= λ p. accepted (frames_text p)) before

-- 1 before all others
unfoldable pub encode : (source : List ℕ) → (table : ℕ) → (before : List ℕ) → WriteResult
encode s table before =
    if ltb table table_least then (λ _. record { answer = write_refusal table_too_short 0; strip = before }) otherwise λ _. encode_result (checking s) before

-- the answer, the work table and the strip that are right for a source and what these held before
pub record Encodes (s table before : List ℕ) (a : WriteAnswer) (tableExit after : List ℕ) : Type 0 where
  pub answer : record { answer = a; strip = after } ≡ encode s (length table) before
  pub cleared : tableExit ≡ table_after table

-- THE RUNNER

-- "hands back a record of where it is"
pub record Record : Type 0 where
  pub line : ℕ
  pub height : ℕ
  pub calls : ℕ
  pub words : ℕ
  pub printed : ℕ
  pub tape : ℕ
  pub marks : ℕ
  pub frames : ℕ
  pub unspent : ℕ

abbrev pub no_record_lem : Record
no_record_lem = record { line = 0; height = 0; calls = 0; words = 0; printed = 0; tape = 0; marks = 0; frames = 0; unspent = 0 }

-- what is lent: the heap strip, the output strip, the register strip and the stack strip
pub record Strips : Type 0 where
  pub heap : List ℤ
  pub output : List ℤ
  pub registers : List ℕ
  pub stack : List ℕ

-- the budget, the call limit and the price of a part
pub record Limits : Type 0 where
  pub budget : ℕ
  pub calls : ℕ
  pub price : ℕ

-- number, position, frames, heap words, printed count and record; and the strips
pub record Answer : Type 0 where
  pub number : ℕ
  pub position : ℕ
  pub frames : ℕ
  pub words : ℕ
  pub printed : ℕ
  pub pause : Record
  pub strips : Strips

-- "touching nothing"
abbrev pub refusal : (number position : ℕ) → Strips → Answer
refusal n p m = record { number = n; position = p; frames = 0; words = 0; printed = 0; pause = no_record_lem; strips = m }

-- 2, 3, 62, 72, 68
abbrev pub unfit : Limits → Strips → Option ℕ
unfit L m =
    if eqb L.calls 0 || ltb calls_most L.calls then (λ _. some call_limit_out_of_range) otherwise λ _.
    if ltb heap_most (length m.heap) then (λ _. some heap_too_long) otherwise λ _.
    if not (eqb (length m.registers) registers_count) then (λ _. some registers_not_sixteen) otherwise λ _.
    if not (eqb L.price 1 || eqb L.price 10) then (λ _. some price_unfit) otherwise λ _.
    if ltb (length m.stack) stack_least then (λ _. some frames_too_short) otherwise λ _.
    none

-- "71: the record's line is past the last, its stack height above the stack strip, its open calls above the call limit, its heap words,
-- printed count or tape place above its strip, its frames so far, unspent budget and new budget together above 4294967295, or another part
-- of it above the bound docs/ gives"
abbrev pub fits : List Line → (tape : List ℕ) → Limits → Strips → Record → Bool
fits ls tape L m r =
    ltb r.line (length ls) && leb r.height (length m.stack - values_from) && leb r.calls L.calls
    && leb r.words (length m.heap) && leb r.printed (length m.output) && leb r.tape (length tape)
    && leb (r.frames + r.unspent + L.budget) budget_most && leb r.marks 99

-- the state that a record and the strips say; "bit 7 of register 0" is worked out anew
abbrev pub state_of : (tape : List ℕ) → Record → Strips → State
state_of tape r m =
    record {
      line = r.line;
      height = r.height;
      calls = r.calls;
      words = r.words;
      printed = r.printed;
      tape = r.tape;
      marks = r.marks;
      stack = m.stack;
      heap = m.heap;
      output = m.output;
      registers = registers (device_in tape m.registers r.tape);
    }

-- "A run begins with .. heap strip, stack strip and register strip all 0, whatever they held before"
abbrev pub cleared : Strips → Strips
cleared m =
    record {
      heap = replicate (length m.heap) (pos 0);
      output = m.output;
      registers = replicate registers_count 0;
      stack = replicate (length m.stack) 0;
    }

abbrev pub record_from : Parts.Report → Record
record_from r =
    let s = r.state in
    record {
      line = s.line;
      height = s.height;
      calls = s.calls;
      words = s.words;
      printed = s.printed;
      tape = s.tape;
      marks = s.marks;
      frames = r.frames;
      unspent = r.unspent;
    }

-- "A paused run leaves its heap, stack and register strips for the next part"; else "heap and stack end all 0"
abbrev pub answer : Parts.Report → Answer
answer r =
    let s = r.state in
    let p = eqb r.number budget_spent in
    record {
      number = r.number;
      position = r.position;
      frames = r.frames;
      words = s.words;
      printed = s.printed;
      pause = if p then (λ _. record_from r) otherwise λ _. no_record_lem;
      strips = record {
        heap = if p then (λ _. s.heap) otherwise λ _. replicate (length s.heap) (pos 0);
        output = s.output;
        registers = s.registers;
        stack = if p then (λ _. s.stack) otherwise λ _. replicate (length s.stack) 0;
      };
    }

abbrev pub around_of : List Line → (tape : List ℕ) → Limits → Around
around_of ls tape L = record { lines = ls; tape = tape; calls = L.calls }

-- a part from a record on
abbrev pub part_from : List Line → (tape : List ℕ) → Limits → Record → Strips → Answer
part_from ls tape L r m =
    answer (run_frames (around_of ls tape L) (λ _. L.price) r.frames (r.unspent + L.budget) (state_of tape r m))

abbrev pub begins : Outcome (List Line) → (tape : List ℕ) → Limits → Strips → Answer
begins (refused n p) tape L m = refusal n p m
begins (accepted ls) tape L m = part_from ls tape L no_record_lem (cleared m)

abbrev pub going_on : Outcome (List Line) → (tape : List ℕ) → Limits → Record → Strips → Answer
going_on (refused n p) tape L r m = refusal n p m
going_on (accepted ls) tape L r m =
    if fits ls tape L m r then (λ _. part_from ls tape L r m) otherwise λ _. refusal record_unfit 0 m

-- "The first part takes no record and never meets 71"
unfoldable pub run : (frames : List ℕ) → (tape : List ℕ) → Limits → Strips → Answer
run s tape L m = option (unfit L m) (begins (lines s) tape L m) λ n. refusal n 0 m

unfoldable pub continue : (frames : List ℕ) → (tape : List ℕ) → Limits → Record → Strips → Answer
continue s tape L r m = option (unfit L m) (going_on (lines s) tape L r m) λ n. refusal n 0 m

-- the answer and the strips that are right for a text of frames, a tape, limits and what the strips held before
pub record RunsFrames (text tape : List ℕ) (L : Limits) (before : Strips) (a : Answer) : Type 0 where
  pub answer : a ≡ run text tape L before

-- and for a record
pub record ContinuesFrames (text tape : List ℕ) (L : Limits) (r : Record) (before : Strips) (a : Answer) : Type 0 where
  pub answer : a ≡ continue text tape L r before
