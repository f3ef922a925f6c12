-- Parts and operations: a part is a run from what a record says, over the lines of a text that is of the form.
use Prim.Native.Nat.{ℕ, ◌+◌, ◌/◌}
use mathlib.Core.Bool.{Bool, true, false}
use mathlib.Core.List.{List}
use mathlib.Core.Option.{Option}
use mathlib.Core.Path.{◌≡◌, refl, sym, ap, ap₂, ◌∙◌}
use lib.IntN.{ℤ}
use lib.ListN.{length}
use Rattle.std.specs.Prelude.{Ok, Err}
use Rattle.base.specs.Choice.{option}
use Rattle.base.specs.Outcome.{Outcome}
use Rattle.base.specs.declared.refusal.Reason.{Reason}
use Rattle.base.specs.declared.refusal.Refusal.{Refusal}
use Rattle.base.specs.promises.Refusals.{number_of}
use Rattle.device.specs.promises.Holding.{held_in, registers_of}
use Rattle.frames.specs.Lines.{Line, lines}
use Rattle.frames.specs.Operations as Operations
use Rattle.frames.specs.Operations.{Strips, answer, begins, going_on, run, continue}
use Rattle.frames.specs.Parts.{run_frames}
use Rattle.player.specs.declared.lines.Line.{Line as OwnLine}
use Rattle.player.specs.declared.rounds.Meter.{Meter}
use Rattle.player.specs.declared.run.Answer.{Answer}
use Rattle.player.specs.declared.run.Limits.{Limits}
use Rattle.player.specs.declared.run.Record.{Record}
use Rattle.player.specs.declared.state.Machine.{Machine}
use Rattle.player.specs.promises.Reading.{lines_in, Form}
use Rattle.player.specs.promises.Turning.{state_of}
use Rattle.player.specs.promises.Running.{Ran, around_in}
use Rattle.player.specs.Answering.{answer_of, strips_of, limits_of_lem, record_from, Runs, Continues}
use Rattle.player.specs.promises.Ending.{started_from, refusal_of, Lent, Fits, EndsAs, Parted}
use Rattle.player.specs.promises.Ending.{Begun, GoesOn}
use Rattle.player.proofs.Lining.{lines-length}
use Rattle.player.proofs.Tests.{yes-is, no-is}

-- A PART

module _ {text tape : List ℕ} {l : Limits} {p : Record} {heap output : List ℤ} {registers stack : List ℕ} where
  pub parts : {m : Machine} {e : Meter} {a : Answer} {count price budget : ℕ} {heap' heap'' output' : List ℤ}
      {registers' stack' stack'' : List ℕ}
      → m ≡ started_from p → price ≡ l.price → budget ≡ p.unspent + l.budget
      → Ran count (run_frames (around_in text tape l.calls) (λ _. price) p.frames budget
      (state_of m stack heap output registers)) e stack' heap' output' registers'
      → EndsAs e stack' stack'' heap' heap'' a
      → Parted text tape l p (strips_of heap output registers stack) (strips_of heap'' output' registers' stack'') a
  parts {m} {e} {a} {count} {price} {budget} {heap'} {heap''} {output'} {registers'} {stack'} {stack''} q y b w u =
      record {
        is = u.says count _ output' registers' w
            ∙ ap₂ (λ (m : Machine) (y : ℕ). answer (run_frames (around_in text tape l.calls) (λ _. y) p.frames budget
            (state_of m stack heap output registers))) q y
            ∙ ap (λ (b : ℕ). answer (run_frames (around_in text tape l.calls) (λ _. l.price) p.frames b (state_of
            (started_from p) stack heap output registers))) b;
      }

-- A FURTHER PART

fits-is : (text tape : List ℕ) (l : Limits) (p : Record) (heap output : List ℤ) (registers stack : List ℕ) (count : ℕ) (v : Bool)
    → count ≡ length text / 11
    → Fits p l count (length stack) (length heap) (length output) (length tape) v
    → Operations.fits (lines_in text) tape (limits_of_lem l) (strips_of heap output registers stack) (record_from p) ≡ v
fits-is text tape l p heap output registers stack count v c w =
    w.says (lines_in text) tape (strips_of heap output registers stack) (lines-length text (length text / 11) 0 ∙ sym c) refl refl refl refl

module _ {text tape : List ℕ} {l : Limits} {p : Record} {heap output : List ℤ} {registers stack : List ℕ} {count : ℕ} {v : Bool} where
  pub unfit-record : {a : Answer} → count ≡ length text / 11 → Fits p l count (length stack) (length heap) (length output)
      (length tape) v → v ≡ false
      → a ≡ refusal_of 71 0 → GoesOn text tape l p (strips_of heap output registers stack) (strips_of heap output registers stack) a
  unfit-record {a} c w z e =
      record {
        is = ap (λ (a : Answer). answer_of a (strips_of heap output registers stack)) e
            ∙ sym (no-is (Operations.fits (lines_in text) tape (limits_of_lem l) (strips_of heap output registers stack) (record_from p)) _ _
            (fits-is text tape l p heap output registers stack count v c w ∙ z));
      }

  pub goes_on : {a : Answer} {registers' : List ℕ} {m : Strips} → count ≡ length text / 11
      → Fits p l count (length stack) (length heap) (length output) (length tape) v → v ≡ true → registers' ≡ registers_of (held_in registers 0)
      → Parted text tape l p (strips_of heap output registers' stack) m a → GoesOn text tape l p (strips_of heap output registers stack) m a
  goes_on {a} {registers'} {m} c w z e u =
      record {
        is = u.is
            ∙ ap (λ (g : List ℕ). answer (run_frames (around_in text tape l.calls) (λ _. l.price) p.frames (p.unspent + l.budget)
            (state_of (started_from p) stack heap output g))) e
            ∙ sym (yes-is (Operations.fits (lines_in text) tape (limits_of_lem l) (strips_of heap output registers stack) (record_from p)) _ _
            (fits-is text tape l p heap output registers stack count v c w ∙ z));
      }

-- THE OPERATIONS

module _ {text tape : List ℕ} {l : Limits} {heap output : List ℤ} {registers stack : List ℕ} {a : Answer} where
  pub run-refused : {e : Reason} → Lent l (length heap) (length registers) (length stack) (Err e) → a ≡ refusal_of (number_of e) 0
      → Runs text tape l (strips_of heap output registers stack) (strips_of heap output registers stack) a
  unfolding run
  run-refused {e} w q =
      let m = strips_of heap output registers stack in
      record {
        is = ap (λ (a : Answer). answer_of a m) q
            ∙ sym (ap (λ (o : Option ℕ). option o (begins (lines text) tape (limits_of_lem l) m) λ n. Operations.refusal n 0 m)
            (w.says m refl refl refl));
      }

  pub run-form : {decoded : List OwnLine} {u : Unit {0}} {e : Refusal} → Lent l (length heap) (length registers) (length stack) (Ok u)
      → Form text decoded (Err e) → a ≡ refusal_of (number_of e.reason) e.position
      → Runs text tape l (strips_of heap output registers stack) (strips_of heap output registers stack) a
  unfolding run
  run-form {decoded} {u} {e} w f q =
      let m = strips_of heap output registers stack in
      record {
        is = ap (λ (a : Answer). answer_of a m) q
            ∙ sym (ap₂ (λ (o : Option ℕ) (x : Outcome (List Line)). option o (begins x tape (limits_of_lem l) m) λ n. Operations.refusal n 0 m)
            (w.says m refl refl refl) (f.other e refl));
      }

  pub run-begun : {decoded : List OwnLine} {m : Strips} {u v : Unit {0}} → Lent l (length heap) (length registers) (length stack) (Ok u)
      → Form text decoded (Ok v) → Begun text tape l (strips_of heap output registers stack) m a
      → Runs text tape l (strips_of heap output registers stack) m a
  unfolding run
  run-begun {decoded} {m} {u} {v} w f g =
      let b = strips_of heap output registers stack in
      record {
        is = g.is
            ∙ sym (ap₂ (λ (o : Option ℕ) (x : Outcome (List Line)). option o (begins x tape (limits_of_lem l) b) λ n. Operations.refusal n 0 b)
            (w.says b refl refl refl) (f.fine v refl).lines);
      }

  pub resume-refused : {p : Record} {e : Reason} → Lent l (length heap) (length registers) (length stack) (Err e)
      → a ≡ refusal_of (number_of e) 0
      → Continues text tape l p (strips_of heap output registers stack) (strips_of heap output registers stack) a
  unfolding continue
  resume-refused {p} {e} w q =
      let m = strips_of heap output registers stack in
      record {
        is = ap (λ (a : Answer). answer_of a m) q
            ∙ sym (ap (λ (o : Option ℕ). option o (going_on (lines text) tape (limits_of_lem l) (record_from p) m) λ n.
            Operations.refusal n 0 m) (w.says m refl refl refl));
      }

  pub resume-form : {p : Record} {decoded : List OwnLine} {u : Unit {0}} {e : Refusal}
      → Lent l (length heap) (length registers) (length stack) (Ok u)
      → Form text decoded (Err e) → a ≡ refusal_of (number_of e.reason) e.position
      → Continues text tape l p (strips_of heap output registers stack) (strips_of heap output registers stack) a
  unfolding continue
  resume-form {p} {decoded} {u} {e} w f q =
      let m = strips_of heap output registers stack in
      record {
        is = ap (λ (a : Answer). answer_of a m) q
            ∙ sym (ap₂ (λ (o : Option ℕ) (x : Outcome (List Line)). option o (going_on x tape (limits_of_lem l) (record_from p) m) λ n.
            Operations.refusal n 0 m) (w.says m refl refl refl) (f.other e refl));
      }

  pub resumed : {p : Record} {decoded : List OwnLine} {m : Strips} {u v : Unit {0}}
      → Lent l (length heap) (length registers) (length stack) (Ok u)
      → Form text decoded (Ok v) → GoesOn text tape l p (strips_of heap output registers stack) m a
      → Continues text tape l p (strips_of heap output registers stack) m a
  unfolding continue
  resumed {p} {decoded} {m} {u} {v} w f g =
      let b = strips_of heap output registers stack in
      record {
        is = g.is
            ∙ sym (ap₂ (λ (o : Option ℕ) (x : Outcome (List Line)). option o (going_on x tape (limits_of_lem l) (record_from p) b) λ n.
            Operations.refusal n 0 b) (w.says b refl refl refl) (f.fine v refl).lines);
      }
