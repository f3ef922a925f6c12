-- The parsing function and the grammar agree: the theorems. Each follows from what the machine's runs say of the whole list.
use Rattle.std.specs.Prelude.{ℕ, ◌+◌, ◌≤◌, ◌<◌, ◌≡◌, refl, List, ◌↔◌, length}
use Rattle.std.proofs.Common.{arith}
use Rattle.std.proofs.Math.Decide.{dec_lt}
use Rattle.lexer.specs.Tokens.{Token}
use Rattle.parser.specs.Tree.{Program}
use Rattle.parser.specs.Parse.{Parsed, ok, bad, out, parse}
use Rattle.parser.specs.Grammar.{DerivesProgram, Sentence, Viable}
use Rattle.grammar.specs.laws.Proper.{Proper, end_of}
use Rattle.grammar.specs.laws.Declarations.{read-program}
use Rattle.grammar.specs.laws.Completion.{within}
use Rattle.grammar.specs.laws.Complete.{found-program}
use Rattle.grammar.specs.laws.Whole.{not-out, parsed, refused, given-in-full, viable, not-viable, shorter}

-- The fuel is enough.
pub never-out : (ts : List Token) → parse ts ≡ out → ⊥
never-out ts e = not-out (read-program ts) e

-- What is parsed the grammar derives, and it is all of the tokens.
pub sound : (ts : List Token) → Proper ts → (p : Program) (j : ℕ) → parse ts ≡ ok p j → DerivesProgram ts p × (j ≡ length ts)
sound ts proper p j e =
    let h = parsed ts e in
    let all : j ≡ length ts = omega (arith, within ts h.1, end_of j proper h.0.0) in
    (h.0.1 all, all)

-- What the grammar derives is parsed, to that tree.
pub complete : (ts : List Token) (p : Program) → DerivesProgram ts p → parse ts ≡ ok p (length ts)
complete ts p d = given-in-full (found-program ts d) (never-out ts)

-- Each list of tokens has at most one tree.
pub one-tree : (ts : List Token) (p q : Program) → DerivesProgram ts p → DerivesProgram ts q → p ≡ q
one-tree ts p q d e = cc (complete ts p d, complete ts q e)

-- Where the list is refused at token k, some program begins with the tokens before it, none with those and token k, and the list is no
-- program.
pub parse-refusal : (ts : List Token) (k : ℕ) → parse ts ≡ bad k → (k ≤ length ts) × Viable ts k × (¬ Viable ts (k + 1)) × (¬ Sentence ts)
parse-refusal ts k e =
    let h = refused ts e in (
      within ts h,
      viable ts h,
      not-viable ts h,
      λ s. let z = complete ts s.0 s.1 in let z₂ : ◌≡◌ {A = ℕ} 0 1 = cc in omega arith,
    )

first-misfit : (ts : List Token) → Proper ts → (k : ℕ) → k ≤ length ts → Viable ts k → (k < length ts → ¬ Viable ts (k + 1))
    → ¬ Sentence ts → parse ts ≡ bad k
first-misfit ts proper k le v no-further no-sentence = go (parse ts) refl
  where
    go : (r : Parsed Program) → parse ts ≡ r → parse ts ≡ bad k
    go (ok p j) e = absurd (no-sentence (p, (sound ts proper p j e).0))
    go (bad n) e =
        let u = parse-refusal ts n e in
        elim (dec_lt n k) [
          | yes lt ↦ absurd (u.2 (shorter ts (n + 1) k (omega arith) v))
          | no ge ↦
              elim (dec_lt k n) [
                | yes lt ↦ absurd (no-further (omega (arith, u.0)) (shorter ts (k + 1) n (omega arith) u.1))
                | no ge₂ ↦ let z : n ≡ k = omega arith in cc
              ]
        ]
    go out e = absurd (never-out ts e)

-- The list is refused at a token of it exactly where that is the first with which no program goes on.
pub refused-within : (ts : List Token) → Proper ts → (k : ℕ) → k < length ts → (parse ts ≡ bad k) ↔ (Viable ts k × (¬ Viable ts (k + 1)))
refused-within ts proper k lt =
    (λ e. let u = parse-refusal ts k e in (u.1, u.2), λ h. first-misfit ts proper k (omega arith) h.0 (λ _. h.1) λ s. h.1 (ts, s, refl))

-- The list is refused past its last token exactly where a program begins with it and it is none itself.
pub refused-at-end : (ts : List Token) → Proper ts → (parse ts ≡ bad (length ts)) ↔ (Viable ts (length ts) × (¬ Sentence ts))
refused-at-end ts proper =
    (λ e. let u = parse-refusal ts (length ts) e in (u.1, u.3), λ h. first-misfit ts proper (length ts) (omega arith) h.0 (λ lt. absurd (omega arith)) h.1)
