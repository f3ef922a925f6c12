-- The parsing function of class declarations and the grammar agree on libraries, as they do on programs (crate `grammar`); and what each
-- stage of reading a library answers.
use Rattle.std.specs.Prelude.{ℕ, ◌+◌, ◌*◌, ◌≤◌, ◌<◌, ◌≡◌, List, [], ◌∷◌, length, take}
use Rattle.std.proofs.Common.{arith, sym, ap, ◌∙◌, subst, take-take, lt-ltb, le-ltb}
use Rattle.std.proofs.Math.Decide.{dec_lt}
use Rattle.std.proofs.Math.Path.{refl}
use Rattle.std.proofs.Math.Option.{Option, none, some}
use Rattle.std.proofs.Math.ListN.{get_or-eq_default}
use Rattle.base.specs.Choice.{if◌then◌otherwise◌}
use Rattle.base.specs.Codes.{source_too_long, source_most, not_in_grammar, too_deep}
use Rattle.base.specs.Outcome.{Outcome, accepted, refused}
use Rattle.lexer.specs.Tokens.{Token, tokens}
use Rattle.lexer.specs.Kinds.{k_end}
use Rattle.parser.specs.Tree.{Class}
use Rattle.parser.specs.Stream.{no_more, kind_at, start_at}
use Rattle.parser.specs.Parse.{Parsed, ok, bad, out}
use Rattle.parser.specs.Grammar.{DerivesClasses}
use Rattle.parser.specs.Measure.{classes_deep}
use Rattle.parser.specs.Read.{position_of}
use Rattle.grammar.specs.laws.Proper.{Proper, end_of}
use Rattle.grammar.specs.laws.Recogniser.{Symbol.classes, done, stopped, RunsTo, unique, elsewhere}
use Rattle.grammar.specs.laws.Declarations.{read-classes}
use Rattle.grammar.specs.laws.Completion.{within-classes, completed-classes}
use Rattle.grammar.specs.laws.Complete.{found-classes}
use Rattle.grammar.specs.laws.Whole.{not-out, at_ok, at-bad, given-in-full, alike}
use Rattle.reader.specs.laws.ReadingLaws.{proper}
use Rattle.joining.specs.Library.{Library, ViableLibrary, parse_library, LibraryReading, reading_library}

-- THE GRAMMAR

past : (ts : List Token) → kind_at ts (length ts) ≡ k_end
past ts = ap (λ (t : Token). t.kind) (get_or-eq_default ts no_more {n = length ts} (omega arith))

never-out : (ts : List Token) → parse_library ts ≡ out → ⊥
unfolding parse_library
never-out ts e = not-out (read-classes ts (16 * length ts + 16) 0 (omega arith)) e

parsed : (ts : List Token) {ks : List Class} {j : ℕ} → parse_library ts ≡ ok ks j
    → (DerivesClasses ts 0 j ks × (kind_at ts j ≡ k_end)) × RunsTo ts (classes ∷ []) 0 (done j)
unfolding parse_library
parsed ts e = at_ok (rw e at (read-classes ts (16 * length ts + 16) 0 (omega arith)))

stops : (ts : List Token) {k : ℕ} → parse_library ts ≡ bad k → RunsTo ts (classes ∷ []) 0 (stopped k)
unfolding parse_library
stops ts e = at-bad (rw e at (read-classes ts (16 * length ts + 16) 0 (omega arith)))

pub library-sound : (ts : List Token) → Proper ts → (ks : List Class) (j : ℕ) → parse_library ts ≡ ok ks j → DerivesClasses ts 0 (length ts)
    ks
library-sound ts proper ks j e =
    let h = parsed ts e in
    let all : j ≡ length ts = omega (arith, within-classes ts h.1, end_of j proper h.0.1) in
    rw all at h.0.0

complete : (ts : List Token) (ks : List Class) → DerivesClasses ts 0 (length ts) ks → parse_library ts ≡ ok ks (length ts)
unfolding parse_library
complete ts ks d = given-in-full (found-classes ts d (past ts) (16 * length ts + 16)) (never-out ts)

runs : (us : List Token) → Library us → RunsTo us (classes ∷ []) 0 (done (length us))
runs us d = (parsed us (complete us d.0 d.1)).1

accepts : (us : List Token) → RunsTo us (classes ∷ []) 0 (done (length us)) → Library us
accepts us h = go (parse_library us) refl
  where
    go : (r : Parsed (List Class)) → parse_library us ≡ r → Library us
    go (ok ks j) e =
        let g = parsed us e in
        let z : done j ≡ done (length us) = unique g.1 h in
        let w : j ≡ length us = cc in
        (ks, rw w at g.0.0)
    go (bad k) e = let z : stopped k ≡ done (length us) = unique (stops us e) h in let z₂ : ◌≡◌ {A = ℕ} 0 1 = cc in absurd (omega arith)
    go out e = absurd (never-out us e)

-- Where the list is refused at token k, some library begins with the tokens before it, none with those and token k, and the list is no
-- library.
refusal : (ts : List Token) (k : ℕ) → parse_library ts ≡ bad k
    → (k ≤ length ts) × ViableLibrary ts k × (¬ ViableLibrary ts (k + 1)) × (¬ Library ts)
refusal ts k e =
    let h = stops ts e in
    let c = completed-classes ts h in (
      within-classes ts h,
      (c.0, accepts c.0 c.1, c.2),
      λ v. let us = v.0 in
          let z : stopped k ≡ done (length us) =
          unique (elsewhere (λ p le. alike ts us (k + 1) v.2 p (omega arith)) h) (runs us v.1) in
          let z₂ : ◌≡◌ {A = ℕ} 0 1 = cc in
          omega arith,
      λ s. let z = complete ts s.0 s.1 in let z₂ : ◌≡◌ {A = ℕ} 0 1 = cc in omega arith,
    )

shorter : (ts : List Token) (m n : ℕ) → m ≤ n → ViableLibrary ts n → ViableLibrary ts m
shorter ts m n le v = (v.0, v.1, sym (take-take m n v.0 le) ∙ ap (λ (l : List Token). take m l) v.2 ∙ take-take m n ts le)

first-misfit : (ts : List Token) → Proper ts → (k : ℕ) → k ≤ length ts → ViableLibrary ts k → (k < length ts → ¬ ViableLibrary ts (k + 1))
    → ¬ Library ts → parse_library ts ≡ bad k
first-misfit ts proper k le v no-further no-library = go (parse_library ts) refl
  where
    go : (r : Parsed (List Class)) → parse_library ts ≡ r → parse_library ts ≡ bad k
    go (ok ks j) e = absurd (no-library (ks, library-sound ts proper ks j e))
    go (bad n) e =
        let u = refusal ts n e in
        elim (dec_lt n k) [
          | yes lt ↦ absurd (u.2 (shorter ts (n + 1) k (omega arith) v))
          | no ge ↦
              elim (dec_lt k n) [
                | yes lt ↦ absurd (no-further (omega (arith, u.0)) (shorter ts (k + 1) n (omega arith) u.1))
                | no ge₂ ↦ let z : n ≡ k = omega arith in cc
              ]
        ]
    go out e = absurd (never-out ts e)

-- THE STAGES

module _ (lib : List ℕ) where
  pub too_long : source_most < length lib → reading_library lib ≡ refused source_too_long 0
  unfolding reading_library
  too_long l = rw (lt-ltb source_most (length lib) l) refl

  module _ (short : length lib ≤ source_most) where
    pub not-lexed : {n p : ℕ} → tokens lib ≡ refused n p → reading_library lib ≡ refused n p
    unfolding reading_library
    not-lexed e = rw (le-ltb source_most (length lib) short, e) refl

    module _ (ls : List Token) (lexed : tokens lib ≡ accepted ls) where
      pub not-parsed : (k : ℕ) → parse_library ls ≡ bad k → reading_library lib ≡ refused not_in_grammar (position_of lib ls k)
      unfolding reading_library
      not-parsed k q = rw (le-ltb source_most (length lib) short, lexed, q) refl

      pub not-shallow : (ks : List Class) (j at : ℕ) → parse_library ls ≡ ok ks j → classes_deep ks ≡ some at
          → reading_library lib ≡ refused too_deep at
      unfolding reading_library
      not-shallow ks j at q d = rw (le-ltb source_most (length lib) short, lexed, q, d) refl

      pub read-well : (ks : List Class) (j : ℕ) → parse_library ls ≡ ok ks j → classes_deep ks ≡ none
          → reading_library lib ≡ accepted (record { stream = ls; classes = ks })
      unfolding reading_library
      read-well ks j q d = rw (le-ltb source_most (length lib) short, lexed, q, d) refl

      pub at-token : (k : ℕ) → k < length ls → ViableLibrary ls k → ¬ ViableLibrary ls (k + 1)
          → reading_library lib ≡ refused not_in_grammar (start_at ls k)
      at-token k l v n =
          not-parsed k (first-misfit ls (proper lib ls lexed) k (omega arith) v (λ _. n) (λ s. n (ls, s, refl)))
          ∙ ap (λ b. refused not_in_grammar (if b then (λ _. start_at ls k) otherwise λ _. length lib)) (lt-ltb k (length ls) l)

      pub at-end : ViableLibrary ls (length ls) → ¬ Library ls → reading_library lib ≡ refused not_in_grammar (length lib)
      at-end v n =
          let k = length ls in
          not-parsed k (first-misfit ls (proper lib ls lexed) k (omega arith) v (λ lt. absurd (omega arith)) n)
          ∙ ap (λ b. refused not_in_grammar (if b then (λ _. start_at ls k) otherwise λ _. length lib)) (le-ltb k k (omega arith))

      pub deep-library : {ks : List Class} {at : ℕ} → DerivesClasses ls 0 (length ls) ks → classes_deep ks ≡ some at
          → reading_library lib ≡ refused too_deep at
      deep-library {ks} {at} d e = not-shallow ks (length ls) at (complete ls ks d) e

      pub good-library : {ks : List Class} → DerivesClasses ls 0 (length ls) ks → classes_deep ks ≡ none
          → reading_library lib ≡ accepted (record { stream = ls; classes = ks })
      good-library {ks} d e = read-well ks (length ls) (complete ls ks d) e

      -- what holds of each of the four answers, where the grammar gives it, holds of the reading
      pub by-grammar : (P : Outcome LibraryReading → Type 0)
          → ((k : ℕ) → k < length ls → ViableLibrary ls k → ¬ ViableLibrary ls (k + 1) → P (refused not_in_grammar (start_at ls k)))
          → (ViableLibrary ls (length ls) → ¬ Library ls → P (refused not_in_grammar (length lib)))
          → ((ks : List Class) (at : ℕ) → DerivesClasses ls 0 (length ls) ks → classes_deep ks ≡ some at → P (refused too_deep at))
          → ((ks : List Class) → DerivesClasses ls 0 (length ls) ks → classes_deep ks ≡ none
          → P (accepted (record { stream = ls; classes = ks })))
          → P (reading_library lib)
      by-grammar P misfit early deep well = by-parse (parse_library ls) refl
        where
          by-depth : (ks : List Class) (d : Option ℕ) → classes_deep ks ≡ d → DerivesClasses ls 0 (length ls) ks → P (reading_library lib)
          by-depth ks none e d = rw (good-library d e) (well ks d e)
          by-depth ks (some at) e d = rw (deep-library d e) (deep ks at d e)

          by_token : (k : ℕ) → parse_library ls ≡ bad k → Dec (k < length ls) → P (reading_library lib)
          by_token k e (yes l) = let h = refusal ls k e in rw (at-token k l h.1 h.2) (misfit k l h.1 h.2)
          by_token k e (no l) =
              let h = refusal ls k e in
              let v : ViableLibrary ls (length ls) = let z : k ≡ length ls = omega (arith, h.0) in subst (ViableLibrary ls) z h.1 in
              rw (at-end v h.3) (early v h.3)

          by-parse : (r : Parsed (List Class)) → parse_library ls ≡ r → P (reading_library lib)
          by-parse (ok ks j) e = by-depth ks (classes_deep ks) refl (library-sound ls (proper lib ls lexed) ks j e)
          by-parse (bad k) e = by_token k e (dec_lt k (length ls))
          by-parse out e = absurd (never-out ls e)

  -- what holds of the refusals of its length and of its tokens, and where its tokens are read, holds of the reading
  pub by-tokens : (P : Outcome LibraryReading → Type 0)
      → (source_most < length lib → P (refused source_too_long 0))
      → ((n q : ℕ) → length lib ≤ source_most → tokens lib ≡ refused n q → P (refused n q))
      → ((ls : List Token) → length lib ≤ source_most → tokens lib ≡ accepted ls → P (reading_library lib))
      → P (reading_library lib)
  by-tokens P long faulty read = elim (dec_lt source_most (length lib)) [
    | yes l ↦ rw (too_long l) (long l)
    | no l ↦ by-lexing (omega arith) (tokens lib) refl
  ]
    where
      by-lexing : length lib ≤ source_most → (o : Outcome (List Token)) → tokens lib ≡ o → P (reading_library lib)
      by-lexing h (accepted ls) e = read ls h e
      by-lexing h (refused n q) e = rw (not-lexed h e) (faulty n q h e)
