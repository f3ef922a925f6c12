-- What `prepare` returns meets its contract: what `find` leaves is what the writer asks for.
use Prim.Native.Nat.{ℕ}
use mathlib.Core.Path.{◌≡◌, sym, ap, subst}
use mathlib.Core.List.{List}
use lib.ListN.{length}
use Rattle.std.specs.Prelude.{Ok, Err}
use Rattle.typecheck.specs.promises.CheckPost.{Finding}
use Rattle.writer.specs.laws.Room.{compile-fits}
use Rattle.writer.specs.promises.Writing.{Writes}
use Rattle.writer.specs.promises.Preparing.{Prepares}

-- how many tokens and classes are found
abbrev pub tokens_of : Finding → ℕ
tokens_of (Ok z) = z.tokens
tokens_of (Err q) = 0

abbrev pub classes_of : Finding → ℕ
classes_of (Ok z) = z.classes
classes_of (Err q) = 0

pub prepared : {n k : ℕ} {tab code code' entries entries' : List ℕ} → Writes tab n k code code' entries entries'
    → Prepares n k tab code code' entries entries'
prepared {n} {k} {tab} {code} {code'} {entries} {entries'} g =
    record {
      says = λ ts p h.
          let a : n ≡ length ts = ap tokens_of h.answer in
          let b : length p.classes ≡ k = sym (ap classes_of h.answer) in
          let r = (subst (λ (i : ℕ). Writes tab i k code code' entries entries') a g).says ts p h.ready h.derived b in
          record {
            stream = ts;
            answer = h.answer;
            world = h.ready.world;
            derived = h.derived;
            code_is = r.0;
            room = compile-fits h.derived h.ready.world.tokens.few;
            entries-are = r.1;
          };
    }
