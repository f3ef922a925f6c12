-- Reading by the grammar: what the parsing function answers the grammar says (crate `grammar`), so each answer of a reading is one of four;
-- and no two tokens have one position, nor has one that of the source's end, so a refusal's position tells where it stands.
use Rattle.std.specs.Prelude.{ℕ, ◌+◌, ◌≤◌, ◌<◌, ◌≡◌, refl, List, length}
use Rattle.std.proofs.Common.{ap, ◌∙◌, subst, arith, lt-ltb, le-ltb}
use Rattle.std.proofs.Math.Option.{Option, none, some}
use Rattle.std.proofs.Math.Decide.{dec_lt}
use Rattle.base.specs.Choice.{if◌then◌otherwise◌}
use Rattle.base.specs.Codes.{source_too_long, source_most, not_in_grammar, too_deep}
use Rattle.base.specs.laws.Lists.{get-get_d}
use Rattle.base.specs.Outcome.{Outcome, accepted, refused}
use Rattle.base.specs.laws.Tests.{apart}
use Rattle.lexer.specs.Tokens.{Token, tokens}
use Rattle.lexer.proofs.laws.RowLaws.{token-of, starts-increase}
use Rattle.parser.specs.Tree.{Program}
use Rattle.parser.specs.Stream.{token_at, start_at, no_more}
use Rattle.parser.specs.Parse.{Parsed, ok, bad, out, parse}
use Rattle.parser.specs.Grammar.{DerivesProgram, Sentence, Viable}
use Rattle.parser.specs.Measure.{program_deep}
use Rattle.parser.specs.Read.{Reading, reading}
use Rattle.reader.specs.laws.ReadingLaws.{too_long, not-lexed, not-parsed, not-shallow, read-well, proper}
use Rattle.grammar.specs.laws.Agreement.{never-out, sound, complete, parse-refusal, refused-within, refused-at-end}

module _ {A : Type 0} {n m p q : ℕ} where
  number_of : ◌≡◌ {A = Outcome A} (refused n p) (refused m q) → n ≡ m
  number_of e = cc

  position-of : ◌≡◌ {A = Outcome A} (refused n p) (refused m q) → p ≡ q
  position-of e = cc

reading-of : {r r' : Reading} → accepted r ≡ accepted r' → r ≡ r'
reading-of e = cc

module _ (s : List ℕ) (short : length s ≤ source_most) (ts : List Token) (lexed : tokens s ≡ accepted ts) where
  -- POSITIONS

  -- a token stands before the source's end
  start-inside : (k : ℕ) → k < length ts → start_at ts k < length s
  start-inside k l = let t = token-of s ts lexed k (token_at ts k) (get-get_d ts k no_more l) in omega (arith, t.inside, t.nonempty)

  starts : (j k : ℕ) → j < k → k < length ts → start_at ts j < start_at ts k
  starts j k h l =
      starts-increase s ts lexed j k (token_at ts j) (token_at ts k) h (get-get_d ts j no_more (omega arith)) (get-get_d ts k no_more l)

  -- no other token stands at its position
  start-own : (j k : ℕ) → j < length ts → k < length ts → start_at ts j ≡ start_at ts k → j ≡ k
  start-own j k lj lk q =
      elim (dec_lt j k) [
        | yes h ↦ absurd (omega (arith, starts j k h lk))
        | no g ↦ elim (dec_lt k j) [ yes h ↦ absurd (omega (arith, starts k j h lj)) | no h ↦ omega arith ]
      ]

  -- FROM THE GRAMMAR TO THE ANSWER

  pub at-token : (k : ℕ) → k < length ts → Viable ts k → ¬ Viable ts (k + 1) → reading s ≡ refused not_in_grammar (start_at ts k)
  at-token k l v n =
      not-parsed s short ts lexed k ((refused-within ts (proper s ts lexed) k l).1 (v, n))
      ∙ ap (λ b. refused not_in_grammar (if b then (λ _. start_at ts k) otherwise λ _. length s)) (lt-ltb k (length ts) l)

  pub at-end : Viable ts (length ts) → ¬ Sentence ts → reading s ≡ refused not_in_grammar (length s)
  at-end v n =
      let k = length ts in
      not-parsed s short ts lexed k ((refused-at-end ts (proper s ts lexed)).1 (v, n))
      ∙ ap (λ b. refused not_in_grammar (if b then (λ _. start_at ts k) otherwise λ _. length s)) (le-ltb k k (omega arith))

  pub deep-program : {p : Program} {at : ℕ} → DerivesProgram ts p → program_deep p ≡ some at → reading s ≡ refused too_deep at
  deep-program {p} {at} d e = not-shallow s short ts lexed p (length ts) at (complete ts p d) e

  pub good-program : {p : Program} → DerivesProgram ts p → program_deep p ≡ none → reading s ≡ accepted (record { stream = ts; tree = p })
  good-program {p} d e = read-well s short ts lexed p (length ts) (complete ts p d) e

  -- FROM THE ANSWER TO THE GRAMMAR

  -- what holds of each of the four answers, where the grammar gives it, holds of the reading
  pub by-grammar : (P : Outcome Reading → Type 0)
      → ((k : ℕ) → k < length ts → Viable ts k → ¬ Viable ts (k + 1) → P (refused not_in_grammar (start_at ts k)))
      → (Viable ts (length ts) → ¬ Sentence ts → P (refused not_in_grammar (length s)))
      → ((p : Program) (at : ℕ) → DerivesProgram ts p → program_deep p ≡ some at → P (refused too_deep at))
      → ((p : Program) → DerivesProgram ts p → program_deep p ≡ none → P (accepted (record { stream = ts; tree = p })))
      → P (reading s)
  by-grammar P misfit early deep well = by-parse (parse ts) refl
    where
      by-depth : (p : Program) (d : Option ℕ) → program_deep p ≡ d → DerivesProgram ts p → P (reading s)
      by-depth p none e d = rw (good-program d e) (well p d e)
      by-depth p (some at) e d = rw (deep-program d e) (deep p at d e)

      by_token : (k : ℕ) → parse ts ≡ bad k → Dec (k < length ts) → P (reading s)
      by_token k e (yes l) = let h = parse-refusal ts k e in rw (at-token k l h.1 h.2) (misfit k l h.1 h.2)
      by_token k e (no l) =
          let h = parse-refusal ts k e in
          let v : Viable ts (length ts) = let z : k ≡ length ts = omega (arith, h.0) in subst (Viable ts) z h.1 in
          rw (at-end v h.3) (early v h.3)

      by-parse : (r : Parsed Program) → parse ts ≡ r → P (reading s)
      by-parse (ok p j) e = by-depth p (program_deep p) refl (sound ts (proper s ts lexed) p j e).0
      by-parse (bad k) e = by_token k e (dec_lt k (length ts))
      by-parse out e = absurd (never-out ts e)

  pub token-at : (k : ℕ) → k < length ts → reading s ≡ refused not_in_grammar (start_at ts k) → Viable ts k × (¬ Viable ts (k + 1))
  token-at k l =
      by-grammar (λ o. o ≡ refused not_in_grammar (start_at ts k) → Viable ts k × (¬ Viable ts (k + 1)))
      (λ j m v n e. subst (λ i. Viable ts i × (¬ Viable ts (i + 1))) (start-own j k m l (position-of e)) (v, n))
      (λ v n e. absurd (omega (arith, start-inside k l, position-of e)))
      (λ p at d h e. absurd (omega (arith, number_of e)))
      (λ p d h e. apart (cc))

  pub end-at : reading s ≡ refused not_in_grammar (length s) → Viable ts (length ts) × (¬ Sentence ts)
  end-at =
      by-grammar (λ o. o ≡ refused not_in_grammar (length s) → Viable ts (length ts) × (¬ Sentence ts))
      (λ j m v n e. absurd (omega (arith, start-inside j m, position-of e)))
      (λ v n e. (v, n))
      (λ p at d h e. absurd (omega (arith, number_of e)))
      (λ p d h e. apart (cc))

  pub deep-at : (at : ℕ) → reading s ≡ refused too_deep at → (p : Program) × DerivesProgram ts p × (program_deep p ≡ some at)
  deep-at at =
      by-grammar (λ o. o ≡ refused too_deep at → (p : Program) × DerivesProgram ts p × (program_deep p ≡ some at))
      (λ j m v n e. absurd (omega (arith, number_of e)))
      (λ v n e. absurd (omega (arith, number_of e)))
      (λ p i d h e. (p, d, h ∙ ap some (position-of e)))
      (λ p d h e. apart (cc))

  pub program-of : (p : Program) → reading s ≡ accepted (record { stream = ts; tree = p }) → DerivesProgram ts p × (program_deep p ≡ none)
  program-of p =
      by-grammar (λ o. o ≡ accepted (record { stream = ts; tree = p }) → DerivesProgram ts p × (program_deep p ≡ none))
      (λ j m v n e. apart (cc))
      (λ v n e. apart (cc))
      (λ q at d h e. apart (cc))
      (λ q d h e. subst (λ t. DerivesProgram ts t × (program_deep t ≡ none)) (ap (λ (r : Reading). r.tree) (reading-of e)) (d, h))

-- EVERY SOURCE

module _ (s : List ℕ) where
  -- what holds of the refusals of its length and of its tokens, and where its tokens are read, holds of the reading
  pub by-tokens : (P : Outcome Reading → Type 0)
      → (source_most < length s → P (refused source_too_long 0))
      → ((n q : ℕ) → length s ≤ source_most → tokens s ≡ refused n q → P (refused n q))
      → ((ts : List Token) → length s ≤ source_most → tokens s ≡ accepted ts → P (reading s))
      → P (reading s)
  by-tokens P long faulty read = elim (dec_lt source_most (length s)) [
    | yes l ↦ rw (too_long s l) (long l)
    | no l ↦ by-lexing (omega arith) (tokens s) refl
  ]
    where
      by-lexing : length s ≤ source_most → (o : Outcome (List Token)) → tokens s ≡ o → P (reading s)
      by-lexing h (accepted ts) e = read ts h e
      by-lexing h (refused n q) e = rw (not-lexed s h e) (faulty n q h e)

  -- what is read lies within the bounds, and its tree is one of the grammar
  pub read_whole : (r : Reading) → reading s ≡ accepted r
      → (length s ≤ source_most) × (tokens s ≡ accepted r.stream) × DerivesProgram r.stream r.tree × (program_deep r.tree ≡ none)
  read_whole r =
      by-tokens (λ o. o ≡ accepted r → Q r) (λ l e. apart (cc)) (λ n q h e z. apart (cc))
      (λ ts h e.
      by-grammar s h ts e (λ o. o ≡ accepted r → Q r) (λ k l v n z. apart (cc)) (λ v n z. apart (cc)) (λ p at d g z. apart (cc))
      (λ p d g z. subst Q (reading-of z) (h, e, d, g)))
    where
      Q : Reading → Type 0
      Q r =
          (length s ≤ source_most) × (tokens s ≡ accepted r.stream)
          × DerivesProgram r.stream r.tree × (program_deep r.tree ≡ none)
