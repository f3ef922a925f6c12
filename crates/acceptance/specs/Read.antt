-- Document 01, "What each operation refuses", Read: what it answers, said by a source's tokens, the grammar and the depth of the tree. The
-- parsing function is not named here, and who takes this as the promise need not believe it. It holds since parsing and the grammar agree
-- (crate `grammar`; ReadLaws).
use Rattle.std.specs.Prelude.{ℕ, ◌+◌, ◌≤◌, ◌<◌, ◌≡◌, List, ◌↔◌, length, replicate}
use Rattle.std.proofs.Math.Path.{refl}
use Rattle.std.proofs.Common.{sym, ap, ◌∙◌, subst, lt-ltb, le-ltb}
use Rattle.std.proofs.Math.Option.{none, some}
use Rattle.base.specs.Codes.{success, table_too_short, source_too_long, source_most, not_in_grammar, too_deep, table_least}
use Rattle.base.specs.Outcome.{Outcome, accepted, refused}
use Rattle.lexer.specs.Tokens.{Token, tokens}
use Rattle.parser.specs.Tree.{Program}
use Rattle.parser.specs.Stream.{start_at}
use Rattle.parser.specs.Grammar.{DerivesProgram, Sentence, Viable}
use Rattle.parser.specs.Measure.{program_deep}
use Rattle.parser.specs.Read.{Reading, reading, ReadAnswer, read_answer, read, table_after, Reads}
use Rattle.reader.specs.laws.ReadingLaws.{too_long, not-lexed}
use Rattle.acceptance.specs.Numbers.{of-read}
use Rattle.acceptance.specs.Refusals.{read-refusal, not-success}
use Rattle.acceptance.specs.laws.ReadLaws.{at-token, at-end, deep-program, good-program, by-grammar, token-at, end-at, deep-at}
use Rattle.acceptance.specs.laws.ReadLaws.{program-of, by-tokens, read_whole}

-- WHAT IS FOUND IN A SOURCE

-- what the grammar makes of a source s with the tokens ts
pub data ByGrammar (s : List ℕ) (ts : List Token) : Outcome Reading → Type 0 where
  -- 16 at the first token such that no program begins with the tokens up to and including it: one begins with those before it
  misfit : {k : ℕ} → k < length ts → Viable ts k → ¬ Viable ts (k + 1) → ByGrammar s ts (refused not_in_grammar (start_at ts k))
  -- else 16 at the lesson's length where it ends too early: a program begins with all the tokens, and they are none
  ends-early : Viable ts (length ts) → ¬ Sentence ts → ByGrammar s ts (refused not_in_grammar (length s))
  -- 17: a node deeper than 64, at the smallest position of one
  too-deep : {p : Program} {at : ℕ} → DerivesProgram ts p → program_deep p ≡ some at → ByGrammar s ts (refused too_deep at)
  -- else it is accepted, with its tokens and its tree
  program : {p : Program} → DerivesProgram ts p → program_deep p ≡ none → ByGrammar s ts (accepted (record { stream = ts; tree = p }))

pub data Finds (s : List ℕ) : Outcome Reading → Type 0 where
  -- 10: lesson over 16,384 bytes, position 0
  source-too-long : source_most < length s → Finds s (refused source_too_long 0)
  -- 11 to 15, 60 and 65: the first fault of its tokens
  tokens-refused : {n q : ℕ} → length s ≤ source_most → tokens s ≡ refused n q → Finds s (refused n q)
  -- then what the grammar makes of it
  tokens-read : {ts : List Token} {o : Outcome Reading} → length s ≤ source_most → tokens s ≡ accepted ts → ByGrammar s ts o → Finds s o

-- a source that is accepted: it is not too long, its tokens are the yield of a derivation of the program p, and no node is deeper than 64
pub record Readable (s : List ℕ) (ts : List Token) (p : Program) : Type 0 where
  pub short : length s ≤ source_most
  pub lexed : tokens s ≡ accepted ts
  pub derived : DerivesProgram ts p
  pub shallow : program_deep p ≡ none

-- A SOURCE OF AT MOST 16,384 BYTES, WITH ITS TOKENS
module _ (s : List ℕ) (short : length s ≤ source_most) (ts : List Token) (lexed : tokens s ≡ accepted ts) where
  -- 16 stands at a token exactly when some program begins with the tokens before it, and none with these and it.
  pub refused-at-token : (k : ℕ) → k < length ts → (reading s ≡ refused not_in_grammar (start_at ts k)) ↔ (Viable ts k × (¬ Viable ts (k + 1)))
  refused-at-token k l = (token-at s short ts lexed k l, λ h. at-token s short ts lexed k l h.0 h.1)

  -- 16 stands at the source's length exactly when some program begins with its tokens, and they are no program.
  pub refused-at-end : (reading s ≡ refused not_in_grammar (length s)) ↔ (Viable ts (length ts) × (¬ Sentence ts))
  refused-at-end = (end-at s short ts lexed, λ h. at-end s short ts lexed h.0 h.1)

  -- 17 is given exactly for a program with a node deeper than 64, at the smallest position of one.
  pub refused-deep : (at : ℕ) → (reading s ≡ refused too_deep at) ↔ ((p : Program) × DerivesProgram ts p × (program_deep p ≡ some at))
  refused-deep at = (deep-at s short ts lexed at, λ h. deep-program s short ts lexed h.1 h.2)

  -- The tree p is found exactly when the grammar derives it from the tokens, and no node is deeper than 64.
  pub accepted-with : (p : Program)
      → (reading s ≡ accepted (record { stream = ts; tree = p })) ↔ (DerivesProgram ts p × (program_deep p ≡ none))
  accepted-with p = (program-of s short ts lexed p, λ h. good-program s short ts lexed h.0 h.1)

  -- These are all the answers.
  pub reads-by-grammar : (o : Outcome Reading) → (reading s ≡ o) ↔ ByGrammar s ts o
  reads-by-grammar o = (λ e. subst (ByGrammar s ts) e all, given)
    where
      all : ByGrammar s ts (reading s)
      all =
          by-grammar s short ts lexed (ByGrammar s ts)
          (λ k l v n. misfit l v n) ends-early (λ p at d e. too-deep d e) (λ p d e. program d e)

      given : {o : Outcome Reading} → ByGrammar s ts o → reading s ≡ o
      given (misfit {k = k} l v n) = (refused-at-token k l).1 (v, n)
      given (ends-early v n) = refused-at-end.1 (v, n)
      given (too-deep {p = p} {at = at} d e) = (refused-deep at).1 (p, d, e)
      given (program {p = p} d e) = (accepted-with p).1 (d, e)

-- EVERY SOURCE

-- What is found in a source is what `Finds` says.
pub reads-exactly : (s : List ℕ) (o : Outcome Reading) → (reading s ≡ o) ↔ Finds s o
reads-exactly s o = (λ e. subst (Finds s) e all, given)
  where
    all : Finds s (reading s)
    all =
        by-tokens s (Finds s) source-too-long (λ n q h e. tokens-refused h e)
        (λ ts h e. tokens-read h e ((reads-by-grammar s h ts e (reading s)).0 refl))

    given : {o : Outcome Reading} → Finds s o → reading s ≡ o
    given (source-too-long l) = too_long s l
    given (tokens-refused h e) = not-lexed s h e
    given (tokens-read {ts = ts} {o = o} h e g) = (reads-by-grammar s h ts e o).1 g

-- Its tokens and its tree are found exactly when it is accepted by bounds and grammar.
pub readable-exactly : (s : List ℕ) (ts : List Token) (p : Program)
    → (reading s ≡ accepted (record { stream = ts; tree = p })) ↔ Readable s ts p
readable-exactly s ts p = (
  λ e. let h = read_whole s (record { stream = ts; tree = p }) e in record { short = h.0; lexed = h.1; derived = h.2; shallow = h.3 },
  λ h. good-program s h.short ts h.lexed h.derived h.shallow,
)

-- THE OPERATION

-- 1: table under 16,384 words, which touches nothing.
pub read-table-short : {s before : List ℕ} {a : ReadAnswer} {after : List ℕ} → Reads s before a after → length before < table_least
    → (a ≡ record { number = table_too_short; position = 0; tokens = 0; nodes = 0 }) × (after ≡ before)
unfolding read table_after
read-table-short {before = before} R l =
    let e = lt-ltb (length before) table_least l in
    (R.answer ∙ rw e refl, R.table ∙ rw e refl)

-- with a work table of at least 16,384 words
module _ {s before : List ℕ} {a : ReadAnswer} {after : List ℕ} (R : Reads s before a after) (room : table_least ≤ length before) where
  answer-of : a ≡ read_answer (reading s)
  unfolding read
  answer-of = R.answer ∙ rw (le-ltb (length before) table_least room) refl

  -- The answer has the number and the position of what is found; success gives tokens and nodes, a refusal 0 and 0. Every word of the work
  -- table is 0 then.
  pub read-answers : (o : Outcome Reading) × Finds s o × (a ≡ read_answer o) × (after ≡ replicate (length before) 0)
  unfolding table_after
  read-answers = (reading s, (reads-exactly s (reading s)).0 refl, answer-of, R.table ∙ rw (le-ltb (length before) table_least room) refl)

  -- It is 0 exactly when bounds and grammar allow the source.
  pub read-succeeds : (a.number ≡ success) ↔ ((ts : List Token) × (p : Program) × Readable s ts p)
  read-succeeds = (
    λ e. by (reading s) refl (ap (λ (x : ReadAnswer). x.number) (sym answer-of) ∙ e),
    λ h. ap (λ (x : ReadAnswer). x.number) answer-of ∙ ap (λ o. (read_answer o).number) ((readable-exactly s h.0 h.1).1 h.2),
  )
    where
      by : (o : Outcome Reading) → reading s ≡ o → (read_answer o).number ≡ success → (ts : List Token) × (p : Program) × Readable s ts p
      by (accepted r) e n = (r.stream, r.tree, (readable-exactly s r.stream r.tree).0 e)
      by (refused n q) e m = absurd (not-success (of-read (read-refusal s n q e)) m)
