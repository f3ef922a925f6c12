-- What the functions of the operations promise one another.
use Rattle.std.specs.Prelude.{ℕ, ◌+◌, ◌*◌, ◌/◌, ◌≤◌, ◌<◌, ◌||◌, List, ◌≡◌, ℤ, pos, length, replicate, eqb, Bool, true, Result, Ok, Err}
use Rattle.std.proofs.Math.Option.{Option, none, some}
use Rattle.base.specs.declared.refusal.Reason.{Reason}
use Rattle.base.specs.promises.Refusals.{number_of}
use Rattle.base.specs.Choice.{if◌then◌otherwise◌}
use Rattle.base.specs.Outcome.{accepted}
use Rattle.frames.specs.Lines.{Line}
use Rattle.frames.specs.Operations as Operations
use Rattle.frames.specs.Operations.{Strips, answer, begins, going_on}
use Rattle.frames.specs.Parts.{Report, run_frames}
use Rattle.frames.proofs.laws.Turns.{Within}
use Rattle.player.specs.declared.lines.Line.{Line as OwnLine}
use Rattle.player.specs.declared.rounds.Meter.{Meter}
use Rattle.player.specs.declared.run.Answer.{Answer}
use Rattle.player.specs.declared.run.Limits.{Limits}
use Rattle.player.specs.declared.run.Record.{Record}
use Rattle.player.specs.declared.state.Machine.{Machine}
use Rattle.player.specs.promises.Reading.{lines_in, Decoded}
use Rattle.player.specs.promises.Turning.{state_of}
use Rattle.player.specs.promises.Running.{Ran, around_in}
use Rattle.base.specs.Word.{modulus}
use Rattle.frames.specs.Numbers.{stack_least, budget_most, line_bytes, values_from}
use Rattle.base.specs.Codes.{success, calls_most, registers_count}
use Rattle.player.specs.Answering.{limits_of_lem, record_from, strips_of, answer_of}

-- a line before this one has a position that fits 64 bits
abbrev pub far_line : ℕ
far_line = 1600000000000000000

-- STRUCTS OF STRUCTS

abbrev pub none_of : Record
none_of = record { line = 0; height = 0; calls = 0; words = 0; printed = 0; tape = 0; marks = 0; frames = 0; unspent = 0 }

abbrev pub refusal_of : (number position : ℕ) → Answer
refusal_of n p = record { number = n; position = p; frames = 0; words = 0; printed = 0; pause = none_of }

abbrev pub started_from : Record → Machine
started_from r =
    record {
      line = r.line;
      height = r.height;
      calls = r.calls;
      words = r.words;
      printed = r.printed;
      tape = r.tape;
      marks = r.marks;
    }

abbrev pub recorded_of : Meter → Record
recorded_of e =
    let m = e.machine in
    record {
      line = m.line;
      height = m.height;
      calls = m.calls;
      words = m.words;
      printed = m.printed;
      tape = m.tape;
      marks = m.marks;
      frames = e.frames;
      unspent = e.left;
    }

-- REFUSALS

-- 1 or 10
abbrev pub is_price : ℕ → Bool
is_price p = eqb p 1 || eqb p 10

abbrev pub refusal_in : Result (Unit {0}) Reason → Option ℕ
refusal_in (Ok u) = none
refusal_in (Err e) = some (number_of e)

-- what is unfit; else what is lent is within its bounds
pub record Lent (l : Limits) (heap registers stack : ℕ) (r : Result (Unit {0}) Reason) : Type 0 where
  pub says : (m : Strips) → length m.heap ≡ heap → length m.registers ≡ registers → length m.stack ≡ stack
      → Operations.unfit (limits_of_lem l) m ≡ refusal_in r
  pub bounds : (u : Unit {0}) → r ≡ Ok u → (l.calls ≤ calls_most) × (1 ≤ l.price) × (registers ≡ registers_count) × (stack_least ≤ stack)

-- what a record that fits is
pub record Fit (p : Record) (l : Limits) (count stack heap output samples : ℕ) : Type 0 where
  pub line : p.line < count
  pub height : values_from + p.height ≤ stack
  pub calls : p.calls ≤ l.calls
  pub words : p.words ≤ heap
  pub printed : p.printed ≤ output
  pub tape : p.tape ≤ samples
  pub most : p.frames + p.unspent + l.budget ≤ budget_most
  pub marks : p.marks ≤ 99

pub record Fits (p : Record) (l : Limits) (count stack heap output tape : ℕ) (r : Bool) : Type 0 where
  pub says : (ls : List Line) (t : List ℕ) (m : Strips) → length ls ≡ count → length t ≡ tape → length m.heap ≡ heap
      → length m.output ≡ output
      → length m.stack ≡ stack → Operations.fits ls t (limits_of_lem l) m (record_from p) ≡ r
  pub fit : r ≡ true → Fit p l count stack heap output tape

-- ENDS

pub record Answered (e : Meter) (q : Record) (r : Answer) : Type 0 where
  pub is : r ≡ record {
    number = e.number;
    position = if eqb e.number success then (λ _. 0) otherwise λ _. line_bytes * e.machine.line;
    frames = e.frames;
    words = e.machine.words;
    printed = e.machine.printed;
    pause = q;
  }

pub record EndsAs (e : Meter) (stack stack' : List ℕ) (heap heap' : List ℤ) (r : Answer) : Type 0 where
  pub says : (count : ℕ) (R : Report) (o : List ℤ) (g : List ℕ) → Ran count R e stack heap o g
      → answer_of r (strips_of heap' o g stack') ≡ answer R

-- PARTS

-- what a part asks of its begin
pub record PartFrom (text : List ℕ) (decoded : List OwnLine) (tape : List ℕ) (l : Limits) (p : Record) (heap output : List ℤ) (registers stack : List ℕ) : Type 0 where
  pub lines : Decoded text decoded
  pub most : l.calls ≤ calls_most
  pub paid : 1 ≤ l.price
  pub spend : p.frames + p.unspent + l.budget ≤ budget_most
  pub within : Within (around_in text tape l.calls) (state_of (started_from p) stack heap output registers)
  pub place : p.line ≤ modulus + length text / line_bytes

pub record Parted (text tape : List ℕ) (l : Limits) (p : Record) (m m' : Strips) (a : Answer) : Type 0 where
  pub is : answer_of a m'
      ≡ answer (run_frames (around_in text tape l.calls) (λ _. l.price) p.frames (p.unspent + l.budget)
      (state_of (started_from p) m.stack m.heap m.output m.registers))

pub record Cleared (heap heap' : List ℤ) (registers registers' stack stack' : List ℕ) : Type 0 where
  pub heap_is : heap' ≡ replicate (length heap) (pos 0)
  pub registers-is : registers' ≡ replicate (length registers) 0
  pub stack_is : stack' ≡ replicate (length stack) 0

-- what is not refused
pub record Admitted (text : List ℕ) (decoded : List OwnLine) (l : Limits) (registers stack : List ℕ) : Type 0 where
  pub lines : Decoded text decoded
  pub most : l.calls ≤ calls_most
  pub paid : 1 ≤ l.price
  pub sixteen : length registers ≡ registers_count
  pub long : stack_least ≤ length stack

pub record Begun (text tape : List ℕ) (l : Limits) (m m' : Strips) (a : Answer) : Type 0 where
  pub is : answer_of a m' ≡ begins (accepted (lines_in text)) tape (limits_of_lem l) m

pub record GoesOn (text tape : List ℕ) (l : Limits) (p : Record) (m m' : Strips) (a : Answer) : Type 0 where
  pub is : answer_of a m' ≡ going_on (accepted (lines_in text)) tape (limits_of_lem l) (record_from p) m
