-- What the functions of the operation Print return meets their contracts: the first walk counts the text's bytes, the second writes them.
use Rattle.std.specs.Prelude.{ℕ, ◌≤◌, ◌<◌, ◌≡◌, refl, List, length}
use Rattle.std.proofs.Common.{arith, sym, ◌∙◌, subst, lt-ltb, le-ltb}
use Rattle.std.proofs.Math.Path.{ap}
use Rattle.std.proofs.Math.ListN.{replicate}
use Rattle.base.specs.Codes.{table_least, tokens_most}
use Rattle.base.specs.Outcome.{Outcome, accepted, refused}
use Rattle.base.specs.promises.Answers.{write_answer_of, write_result_of}
use Rattle.std.specs.Prelude.{Result, Ok, Err}
use Rattle.base.specs.declared.refusal.Reason.TheVariants as reason
use Rattle.base.specs.declared.refusal.Refusal.{Refusal}
use Rattle.base.specs.promises.Refusals.{number_of, refusal}
use Rattle.lookup.specs.declared.sizes.Sizes.{Sizes}
use Rattle.base.specs.laws.Tests.{apart}
use Rattle.lexer.specs.Tokens.{Token, tokens}
use Rattle.parser.specs.Tree.{Program}
use Rattle.parser.specs.Grammar.{DerivesProgram}
use Rattle.parser.specs.Read.{table_after}
use Rattle.typesystem.specs.Check.{checking}
use Rattle.acceptance.specs.Read.{readable-exactly}
use Rattle.acceptance.specs.Accepted.{allowed}
use Rattle.declarations.specs.promises.Indexing.{Ready}
use Rattle.typecheck.specs.promises.CheckPost.{Finding, Checked, FindsProgram, Leaves}
use Rattle.printing.specs.Printed.{program_tokens, text}
use Rattle.printing.specs.Print.{print_result, print, Prints}
use Rattle.printing.proofs.Tidy.{text-most}
use Rattle.printer.specs.promises.Puts.{text_room, BytesPut}
use Rattle.printer.specs.promises.Units.{ProgramPut}
use Rattle.printer.specs.promises.PrintPost.{WritesText}
use Rattle.printer.specs.laws.PutLaws.{filled}

-- THE TEXT

module _ {s tab : List ℕ} {n : ℕ} where
  -- what a walk writes
  text-wrote : {before after : List ℕ} {r : ℕ} → ProgramPut s tab n program_tokens 0 before after r → {ts : List Token} {p : Program}
      → tokens s ≡ accepted ts → Ready tab n ts p → DerivesProgram ts p → length (text p) ≤ text_room → BytesPut before 0 (text p) after
      r
  unfolding text
  text-wrote f {ts} {p} lx h d w = (f.says ts lx h.world.tokens p h d).says (omega (arith, w))

  module _ {before none none' : List ℕ} {count : ℕ} (f : ProgramPut s tab n program_tokens 0 none none' count) where
    pub write-short : length before < count
        → WritesText s tab n before (write_result_of (refusal reason.TextTooLong 0) before)
    write-short l = record {
      says = λ ts p lx h d w.
          let z : length before < length (text p) = omega (arith, (text-wrote f lx h d w).end) in
          rw (lt-ltb (length before) (length (text p)) z);
    }

    pub write-long : {after : List ℕ} {written : ℕ} → count ≤ length before → ProgramPut s tab n program_tokens 0 before after
        written
        → WritesText s tab n before (write_result_of (Ok written) after)
    write-long {after} {written} l g = record {
      says = λ ts p lx h d w.
          let z : length (text p) ≤ length before = omega (arith, (text-wrote f lx h d w).end) in
          let v = text-wrote g lx h d w in
          let strip = filled before (text p) after written v z in
          let many : written ≡ length (text p) = omega (arith, v.end) in
          rw (le-ltb (length before) (length (text p)) z, strip, many);
    }

-- THE ANSWER

-- there is room for the text of an accepted lesson
has_room : (s : List ℕ) (p : Program) (f : Finding) (tab : List ℕ) → checking s ≡ accepted p → Checked s p f tab → length (text p) ≤
    text_room
has_room s p f tab e h =
    let a = allowed s p e in
    let z : a.stream ≡ h.stream = accepted-eq (sym a.readable.lexed ∙ h.lexed) in
    let m = text-most s (record { stream = a.stream; tree = p }) ((readable-exactly s a.stream p).1 a.readable) in
    omega (arith, m, a.readable.short, ap length z, h.ready.world.tokens.few)
  where
    accepted-eq : {x y : List Token} → accepted x ≡ accepted y → x ≡ y
    accepted-eq e = cc

module _ (s : List ℕ) (f : Finding) (middle : List ℕ) (l : Leaves s (checking s) f middle) where
  pub few-tokens : {z : Sizes} → f ≡ Ok z → z.tokens ≤ tokens_most
  few-tokens {z} is = go (checking s) l.finds
    where
      go : (w : Outcome Program) → FindsProgram s w f middle → z.tokens ≤ tokens_most
      go (accepted p) h =
          let e = h.answer in
          let c : z ≡ record { tokens = length h.stream; classes = length p.classes } = cc in
          omega (arith, ap (λ (x : Sizes). x.tokens) c, h.ready.world.tokens.few)
      go (refused m q) h = let e = h in apart (cc)

  pub answer-found : (before : List ℕ) {z : Sizes} → f ≡ Ok z → (r : Result ℕ Refusal) {after : List ℕ}
      → WritesText s middle z.tokens before (write_result_of r after) → write_result_of r after ≡ print_result (checking s) before
  answer-found before {z} is r {after} g = go (checking s) refl l.finds
    where
      go : (w : Outcome Program) → checking s ≡ w → FindsProgram s w f middle → write_result_of r after ≡ print_result w before
      go (accepted p) e h =
          let a = h.answer in
          let c : record { tokens = length h.stream; classes = length p.classes } ≡ z = cc in
          g.says h.stream p h.lexed (subst (λ (i : ℕ). Ready middle i h.stream p) (ap (λ (x : Sizes). x.tokens) c) h.ready) h.derived
          (has_room s p f middle e h)
      go (refused m q) e h = let z = h in apart (cc)

  pub answer-unfit : (before : List ℕ) {q : Refusal} → f ≡ Err q → write_result_of (Err q) before ≡ print_result (checking s) before
  answer-unfit before {q} is = go (checking s) l.finds
    where
      go : (w : Outcome Program) → FindsProgram s w f middle → write_result_of (Err q) before ≡ print_result w before
      go (accepted p) h = let z = h.answer in apart (cc)
      go (refused m p) h =
          let z = h in
          let a : number_of q.reason ≡ m = cc in
          let b : q.position ≡ p = cc in
          rw (a, b)

-- THE OPERATION

module _ (s table before : List ℕ) where
  pub print-short : length table < table_least
      → Prints s table before (write_answer_of (refusal reason.TableTooShort 0)) table before
  unfolding print table_after
  print-short h = record { answer = rw (lt-ltb (length table) table_least h); cleared = rw (lt-ltb (length table) table_least h) }

  pub print-answer : table_least ≤ length table → (r : Result ℕ Refusal) (middle : List ℕ) {last after : List ℕ}
      → write_result_of r after ≡ print_result (checking s) before → length middle ≡ length table
      → last ≡ replicate (length middle) 0 → Prints s table before (write_answer_of r) last after
  unfolding print table_after
  print-answer long r middle m same zero = record {
    answer = rw (le-ltb (length table) table_least long) m;
    cleared = rw (le-ltb (length table) table_least long) (zero ∙ ap (λ (k : ℕ). replicate k 0) same);
  }
