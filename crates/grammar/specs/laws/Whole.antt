-- The whole list of tokens: what an answer of `parse` says of the machine's run, that the machine accepts exactly the sentences, and that
-- where it stops at token k the first k tokens are viable and one more is not.
use Rattle.std.specs.Prelude.{ℕ, ◌+◌, ◌≤◌, ◌<◌, ◌≡◌, refl, List, [], ◌++◌, length, take, get_or}
use Rattle.std.proofs.Common.{sym, ap, ◌∙◌, arith, get_or-take, take-take}
use Rattle.lexer.specs.Tokens.{Token}
use Rattle.lexer.specs.Kinds.{k_end}
use Rattle.parser.specs.Tree.{Program}
use Rattle.parser.specs.Stream.{no_more, kind_at}
use Rattle.parser.specs.Parse.{Parsed, ok, bad, out, parse}
use Rattle.parser.specs.Grammar.{DerivesProgram, Sentence, Viable}
use Rattle.grammar.specs.laws.Recogniser.{Symbol, done, stopped, RunsTo, finish, start_stack, unique, elsewhere}
use Rattle.grammar.specs.laws.Passing.{PassesOver, passes-ok, passes-bad}
use Rattle.grammar.specs.laws.Declarations.{read-program}
use Rattle.grammar.specs.laws.Completion.{completed}
use Rattle.grammar.specs.laws.Complete.{Gives, given, spent, found-program}

-- THE ANSWERS

module _ {ts : List Token} {A : Type 0} {xs : List Symbol} {i : ℕ} {Q : A → ℕ → Type 0} where
  pub not-out : {r : Parsed A} → PassesOver ts xs i Q r → r ≡ out → ⊥
  not-out (passes-ok le go q) e = let z : ◌≡◌ {A = ℕ} 0 1 = cc in omega arith
  not-out (passes-bad go) e = let z : ◌≡◌ {A = ℕ} 0 1 = cc in omega arith

  pub at_ok : {a : A} {j : ℕ} → PassesOver ts xs i Q (ok a j) → Q a j × RunsTo ts (xs ++ []) i (done j)
  at_ok {j = j} (passes-ok le go q) = (q, go [] (done j) finish)

  pub at-bad : {k : ℕ} → PassesOver ts xs i Q (bad k) → RunsTo ts (xs ++ []) i (stopped k)
  at-bad (passes-bad go) = go []

pub parsed : (ts : List Token) {p : Program} {j : ℕ} → parse ts ≡ ok p j
    → ((kind_at ts j ≡ k_end) × (j ≡ length ts → DerivesProgram ts p)) × RunsTo ts start_stack 0 (done j)
parsed ts e = at_ok (rw e at (read-program ts))

pub refused : (ts : List Token) {k : ℕ} → parse ts ≡ bad k → RunsTo ts start_stack 0 (stopped k)
refused ts e = at-bad (rw e at (read-program ts))

pub given-in-full : {A : Type 0} {a : A} {j : ℕ} {r : Parsed A} → Gives a j r → (r ≡ out → ⊥) → r ≡ ok a j
given-in-full given h = refl
given-in-full spent h = absurd (h refl)

-- THE MACHINE ACCEPTS THE SENTENCES

runs : (us : List Token) {p : Program} → DerivesProgram us p → RunsTo us start_stack 0 (done (length us))
runs us d = (parsed us (given-in-full (found-program us d) (not-out (read-program us)))).1

accepted : (us : List Token) → RunsTo us start_stack 0 (done (length us)) → Sentence us
accepted us h = go (parse us) refl
  where
    go : (r : Parsed Program) → parse us ≡ r → Sentence us
    go (ok p j) e = let g = parsed us e in let z : done j ≡ done (length us) = unique g.1 h in (p, g.0.1 (cc))
    go (bad k) e = let z : stopped k ≡ done (length us) = unique (refused us e) h in let z₂ : ◌≡◌ {A = ℕ} 0 1 = cc in absurd (omega arith)
    go out e = absurd (not-out (read-program us) e)

-- WHICH BEGINNINGS ARE VIABLE

pub alike : (ts us : List Token) (n : ℕ) → take n us ≡ take n ts → (p : ℕ) → p < n → kind_at us p ≡ kind_at ts p
alike ts us n e p lt =
    ap (λ (t : Token). t.kind) (sym (get_or-take n us p no_more lt) ∙ ap (λ (l : List Token). get_or l p no_more) e ∙ get_or-take n ts p no_more lt)

pub viable : (ts : List Token) {k : ℕ} → RunsTo ts start_stack 0 (stopped k) → Viable ts k
viable ts h = let c = completed ts h in (c.0, accepted c.0 c.1, c.2)

pub not-viable : (ts : List Token) {k : ℕ} → RunsTo ts start_stack 0 (stopped k) → ¬ Viable ts (k + 1)
not-viable ts {k} h v =
    let us = v.0 in
    let z : stopped k ≡ done (length us) = unique (elsewhere (λ p le. alike ts us (k + 1) v.2 p (omega arith)) h) (runs us v.1.1) in
    let z₂ : ◌≡◌ {A = ℕ} 0 1 = cc in
    omega arith

-- what is viable is so up to each earlier token
pub shorter : (ts : List Token) (m n : ℕ) → m ≤ n → Viable ts n → Viable ts m
shorter ts m n le v = (v.0, v.1, sym (take-take m n v.0 le) ∙ ap (λ (l : List Token). take m l) v.2 ∙ take-take m n ts le)
