-- The literals of a derived tree are words: each is the value of a literal token, which the lexer bounds.
use Rattle.std.specs.Prelude.{ℕ, ◌≤◌, ◌<◌, ◌≡◌, List, length}
use Rattle.std.proofs.Common.{ap, arith}
use Rattle.std.proofs.Math.Decide.{dec_lt}
use Rattle.std.proofs.Math.ListN.{get_or-eq_default}
use Rattle.base.specs.Codes.{literal_most}
use Rattle.base.specs.All.{All, all_nil, all_cons}
use Rattle.base.specs.laws.Lists.{get-get_d}
use Rattle.base.specs.Outcome.{accepted}
use Rattle.lexer.specs.Kinds.{k_literal, k_fixed_literal}
use Rattle.lexer.specs.Tokens.{Token, decimal, thousandths_of_lem, tokens}
use Rattle.lexer.proofs.laws.RowLaws.{TokenOf, token-of}
use Rattle.parser.specs.Tree.{Sort, Part, Method, Class, Program}
use Rattle.parser.specs.Stream.{token_at, kind_at, no_more}
use Rattle.parser.specs.Grammar.{Kind, Derives, operate, one-operand, negate, no-negation, make-array, no-array, index, take-length, invoke, no-suffix, a-literal, a-fixed-literal, a-true, a-false, a-name, a-this, make-object, get-register, parentheses, none-given, some-given, one_argument, more-arguments, a_block, an-if, a-while, a-print, an-assignment, an-element-assignment, put-register, no-statement, more-statements}
use Rattle.parser.specs.Grammar.{DerivesMethod, a-method, DerivesMethods, no-method, more-methods, DerivesClass, a-class-declaration, DerivesClasses, no-class, more-classes, DerivesProgram, a_program}
use Rattle.typesystem.specs.Check.{checking}
use Rattle.soundness.specs.laws.StateTyping.{WordLiterals, MethodFits, LiteralsFit}
use Rattle.acceptance.specs.Accepted.{allowed}

-- every literal token has a small value, of int or of fixed
pub record SmallLiterals (ts : List Token) : Type 0 where
  pub integers : (i : ℕ) → kind_at ts i ≡ k_literal → decimal 0 (token_at ts i).text ≤ literal_most
  pub counts : (i : ℕ) → kind_at ts i ≡ k_fixed_literal → thousandths_of_lem (token_at ts i).text ≤ literal_most

-- those of a source have
pub small : (s : List ℕ) (ts : List Token) → tokens s ≡ accepted ts → SmallLiterals ts
small s ts e =
    record {
      integers = λ i k. (is-token i (omega (arith, k))).literal k;
      counts = λ i k. ((is-token i (omega (arith, k))).fixed k).small;
    }
  where
    is-token : (i : ℕ) → 0 < kind_at ts i → TokenOf s (token_at ts i)
    is-token i k = elim (dec_lt i (length ts)) [
      | yes l ↦ token-of s ts e i (token_at ts i) (get-get_d ts i no_more l)
      | no l ↦
          let behind : length ts ≤ i = omega arith in
          absurd (omega (arith, k, ap (λ (t : Token). t.kind) (get_or-eq_default ts no_more behind)))
    ]

module _ {ts : List Token} (fitting : SmallLiterals ts) where
  fit : {s : Sort} {k : Kind s} {i j : ℕ} {t : Part s} → Derives ts s k i j t → WordLiterals t
  fit (operate l e r) = (fit l, fit r)
  fit (one-operand d) = fit d
  fit (negate e d) = fit d
  fit (no-negation d) = fit d
  fit (make-array e₁ e₂ e₃ d e₄) = fit d
  fit (no-array d) = fit d
  fit (index a e₁ i e₂) = (fit a, fit i)
  fit (take-length a e₁ e₂) = fit a
  fit (invoke d e₁ e₂ e₃ ds e₄) = (fit d, fit ds)
  fit (no-suffix d) = fit d
  fit (a-literal {i = i} e) = omega (arith, fitting.integers i e)
  fit (a-fixed-literal {i = i} e) = omega (arith, fitting.counts i e)
  fit (a-true e) = tt
  fit (a-false e) = tt
  fit (a-name e) = tt
  fit (a-this e) = tt
  fit (make-object e₁ e₂ e₃ e₄) = tt
  fit (get-register e₁ e₂ e₃ e₄ d e₅) = fit d
  fit (parentheses e₁ d e₂) = fit d
  fit none-given = tt
  fit (some-given d) = fit d
  fit (one_argument d) = (fit d, tt)
  fit (more-arguments d e ds) = (fit d, fit ds)
  fit (a_block e₁ ds e₂) = fit ds
  fit (an-if e₁ e₂ d e₃ s e₄ t) = (fit d, fit s, fit t)
  fit (a-while e₁ e₂ d e₃ s) = (fit d, fit s)
  fit (a-print e₁ e₂ e₃ e₄ e₅ e₆ d e₇ e₈) = fit d
  fit (an-assignment e₁ e₂ d e₃) = fit d
  fit (an-element-assignment e₁ e₂ i e₃ e₄ d e₅) = (fit i, fit d)
  fit (put-register e₁ e₂ e₃ e₄ n e₅ d e₆ e₇) = (fit n, fit d)
  fit no-statement = tt
  fit (more-statements s ss) = (fit s, fit ss)

  fit-method : {i j : ℕ} {m : Method} → DerivesMethod ts i j m → MethodFits m
  fit-method (a-method e₁ h e₂ ps e₃ e₄ ls ss e₅ v e₆ e₇) = record { body = fit ss; value = fit v }

  fit-methods : {i j : ℕ} {ms : List Method} → DerivesMethods ts i j ms → All MethodFits ms
  fit-methods no-method = all_nil
  fit-methods (more-methods m ms) = all_cons (fit-method m) (fit-methods ms)

  fit-class : {i j : ℕ} {k : Class} → DerivesClass ts i j k → All MethodFits k.methods
  fit-class (a-class-declaration e₁ e₂ p e₃ fs ms e₄) = fit-methods ms

  fit-classes : {i j : ℕ} {ks : List Class} → DerivesClasses ts i j ks → All (λ k. All MethodFits k.methods) ks
  fit-classes no-class = all_nil
  fit-classes (more-classes k ks) = all_cons (fit-class k) (fit-classes ks)

  pub literals-fit : {p : Program} → DerivesProgram ts p → LiteralsFit p
  literals-fit (a_program h s e₁ e₂ ks) = record { main = fit s; classes = fit-classes ks }

-- the literals of an accepted source are words
pub accepted-literals : (s : List ℕ) (p : Program) → checking s ≡ accepted p → LiteralsFit p
accepted-literals s p a = let h = allowed s p a in literals-fit (small s h.stream h.readable.lexed) h.readable.derived
