-- What the operations promise: with the strips afterwards, their answers are those of the definitions, for all inputs.
use Rattle.std.specs.Prelude.{ℕ, List, ◌≡◌, ℤ}
use Rattle.frames.specs.Operations as Operations
use Rattle.frames.specs.Operations.{Strips}
use Rattle.player.specs.declared.run.Answer.{Answer}
use Rattle.player.specs.declared.run.Limits.{Limits}
use Rattle.player.specs.declared.run.Record.{Record}

-- WHAT THE STRUCTS ARE

abbrev pub limits_of_lem : Limits → Operations.Limits
limits_of_lem l = record { budget = l.budget; calls = l.calls; price = l.price }

abbrev pub record_from : Record → Operations.Record
record_from r =
    record {
      line = r.line;
      height = r.height;
      calls = r.calls;
      words = r.words;
      printed = r.printed;
      tape = r.tape;
      marks = r.marks;
      frames = r.frames;
      unspent = r.unspent;
    }

abbrev pub strips_of : (heap output : List ℤ) → (registers stack : List ℕ) → Strips
strips_of h o g k = record { heap = h; output = o; registers = g; stack = k }

abbrev pub answer_of : Answer → Strips → Operations.Answer
answer_of a m =
    record {
      number = a.number;
      position = a.position;
      frames = a.frames;
      words = a.words;
      printed = a.printed;
      pause = record_from a.pause;
      strips = m;
    }

-- THE OPERATIONS

pub record Runs (text tape : List ℕ) (l : Limits) (m m' : Strips) (r : Answer) : Type 0 where
  pub is : answer_of r m' ≡ Operations.run text tape (limits_of_lem l) m

pub record Continues (text tape : List ℕ) (l : Limits) (p : Record) (m m' : Strips) (r : Answer) : Type 0 where
  pub is : answer_of r m' ≡ Operations.continue text tape (limits_of_lem l) (record_from p) m
