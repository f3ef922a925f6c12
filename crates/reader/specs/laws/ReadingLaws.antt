-- Reading, stage by stage: what the definition of Read answers where the source is too long, where the lexer or the parser refuses, where
-- a node is too deep, and where all of them accept; and how the lexer's rows are the tokens that the parser reads.
use Rattle.std.specs.Prelude.{ℕ, ◌≤◌, ◌<◌, ◌≡◌, List, length, get_or}
use Rattle.std.proofs.Math.Path.{refl}
use Rattle.std.proofs.Common.{sym, ap, ◌∙◌, subst, arith, get_or-take, lt-ltb, le-ltb}
use Rattle.std.proofs.Math.Option.{none, some}
use Rattle.std.proofs.Math.Decide.{dec_lt}
use Rattle.std.proofs.Math.ListN.{get_or-eq_default}
use Rattle.base.specs.Codes.{source_too_long, source_most, not_in_grammar, too_deep, tokens_most}
use Rattle.base.specs.laws.Lists.{get-below, get-get_d, all_of}
use Rattle.base.specs.promises.Table.{cell, col, c_kind, c_start, c_number}
use Rattle.base.specs.Outcome.{accepted, refused}
use Rattle.lexer.specs.Tokens.{Token, tokens}
use Rattle.lexer.specs.promises.Rows.{Rows}
use Rattle.lexer.proofs.laws.RowLaws.{token-not-end, starts-increase}
use Rattle.parser.specs.Tree.{Program}
use Rattle.parser.specs.Stream.{token_at, kind_at, start_at, no_more}
use Rattle.parser.specs.Parse.{Parsed, ok, bad, parse}
use Rattle.parser.specs.promises.Answers.{Answer, At, Bad}
use Rattle.parser.specs.promises.Layout.{store_program, given, given_words}
use Rattle.parser.specs.Measure.{program_deep}
use Rattle.parser.specs.promises.Post.{kind_in_table, TokensIn, Met, met-ok, met-bad}
use Rattle.parser.specs.promises.DeclarationPost.{whole_program, ProgramPost}
use Rattle.parser.specs.Read.{position_of, reading}
use Rattle.grammar.specs.laws.Proper.{Proper}
use Rattle.reader.specs.laws.Order.{TokensRise}

-- THE STAGES
module _ (s : List ℕ) where
  pub too_long : source_most < length s → reading s ≡ refused source_too_long 0
  unfolding reading
  too_long l = rw (lt-ltb source_most (length s) l) refl

  module _ (short : length s ≤ source_most) where
    pub not-lexed : {n p : ℕ} → tokens s ≡ refused n p → reading s ≡ refused n p
    unfolding reading
    not-lexed e = rw (le-ltb source_most (length s) short, e) refl

    module _ (ts : List Token) (e : tokens s ≡ accepted ts) where
      pub not-parsed : (k : ℕ) → parse ts ≡ bad k → reading s ≡ refused not_in_grammar (position_of s ts k)
      unfolding reading
      not-parsed k q = rw (le-ltb source_most (length s) short, e, q) refl

      pub not-shallow : (p : Program) (j at : ℕ) → parse ts ≡ ok p j → program_deep p ≡ some at → reading s ≡ refused too_deep at
      unfolding reading
      not-shallow p j at q d = rw (le-ltb source_most (length s) short, e, q, d) refl

      pub read-well : (p : Program) (j : ℕ) → parse ts ≡ ok p j → program_deep p ≡ none
          → reading s ≡ accepted (record { stream = ts; tree = p })
      unfolding reading
      read-well p j q d = rw (le-ltb source_most (length s) short, e, q, d) refl

-- FROM THE LEXER TO THE PARSER
pub proper : (s : List ℕ) (ts : List Token) → tokens s ≡ accepted ts → Proper ts
proper s ts e = all_of ts (λ i t g. token-not-end s ts e i t g)

past_end : (ts : List Token) (i : ℕ) → length ts ≤ i → kind_at ts i ≡ 0
past_end ts i h = ap (λ (t : Token). t.kind) (get_or-eq_default ts no_more h)

pub tokens-in : (tab : List ℕ) (ts : List Token) → Rows tab ts → TokensIn tab (length ts) ts
unfolding kind_in_table
tokens-in tab ts h =
    record {
      count = refl;
      kinds = λ i. elim (dec_lt i (length ts)) [
        | yes l ↦ rw (lt-ltb i (length ts) l) (h i (token_at ts i) (get-get_d ts i no_more l)).kind
        | no l ↦ rw (le-ltb i (length ts) (omega arith)) (sym (past_end ts i (omega arith)))
      ];
      starts = λ i l. (h i (token_at ts i) (get-get_d ts i no_more l)).start;
    }

-- WHAT THE PARSER'S ANSWER SAYS
pub record ParsedTo (ts : List Token) (before after : List ℕ) (next : ℕ) : Type 0 where
  pub tree : Program
  pub parsed : parse ts ≡ ok tree next
  pub stored : after ≡ store_program tree before

module _ {before after : List ℕ} where
  met_at : {ts : List Token} {res : Parsed Program} {x j : ℕ} → parse ts ≡ res → Met whole_program before after (At x j) res
      → ParsedTo ts before after j
  met_at e (met-ok {a = p} r w) = record { tree = p; parsed = e; stored = w }

  met-bad-at : {res : Parsed Program} {k : ℕ} → Met whole_program before after (Bad k) res → res ≡ bad k
  met-bad-at met-bad = refl

module _ {n : ℕ} {ts : List Token} {before after : List ℕ} (h : TokensIn before n ts) where
  met-parse : {r : Answer} → ProgramPost n before r after → Met whole_program before after r (parse ts)
  unfolding parse
  met-parse p = p.says ts h _ (omega (arith, h.count))

  pub parsed-at : {x j : ℕ} → ProgramPost n before (At x j) after → ParsedTo ts before after j
  parsed-at p = met_at refl (met-parse p)

  pub refused-at : {k : ℕ} → ProgramPost n before (Bad k) after → parse ts ≡ bad k
  refused-at p = met-bad-at (met-parse p)

-- the parser's contract for the tokens of a source
pub at-tokens : {T : List ℕ} {n : ℕ} (ts : List Token) → length ts ≡ n → Rows T ts → TokensIn T n ts
at-tokens {T} ts e h = subst (λ (m : ℕ). TokensIn T m ts) e (tokens-in T ts h)

-- THE TABLE AFTER THE PARSER

-- the token columns are kept
pub same-col : (T T' : List ℕ) (k i : ℕ) → given T' ≡ given T → cell k i < given_words → col T' k i ≡ col T k i
unfolding given col
same-col T T' k i e h =
    sym (get_or-take given_words T' (cell k i) 0 h) ∙ ap (λ (l : List ℕ). get_or l (cell k i) 0) e ∙ get_or-take given_words T (cell k i) 0 h

-- so the rows of the tokens stay
pub rows-kept : (T T' : List ℕ) (ts : List Token) → length ts ≤ tokens_most → given T' ≡ given T → Rows T ts → Rows T' ts
rows-kept T T' ts few e h i t g =
    let l = get-below ts i g in
    let r = h i t g in
    record {
      kind = same-col T T' c_kind i e (omega arith) ∙ r.kind;
      start = same-col T T' c_start i e (omega arith) ∙ r.start;
      name = λ n. same-col T T' c_number i e (omega arith) ∙ r.name n;
      literal = λ n. same-col T T' c_number i e (omega arith) ∙ r.literal n;
      fixed = λ n. same-col T T' c_number i e (omega arith) ∙ r.fixed n;
    }

-- the positions of the tokens rise
pub rising : (s : List ℕ) (ts : List Token) → tokens s ≡ accepted ts → TokensRise ts
rising s ts e i j le l = elim (dec_lt i j) [
  | yes lt ↦
      omega (
        arith,
        starts-increase s ts e i j (token_at ts i) (token_at ts j) lt (get-get_d ts i no_more (omega arith)) (get-get_d ts j no_more l),
      )
  | no ge ↦ let z : i ≡ j = omega arith in subst (λ (x : ℕ). start_at ts i ≤ start_at ts x) z (omega arith)
]
