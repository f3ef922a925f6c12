-- No joined text is longer than the two sources, a line feed, and one for each class: a class has four tokens or more, and its text lies
-- within the library, behind that of the class before it.
use Rattle.std.specs.Prelude.{ℕ, suc, ◌+◌, ◌*◌, ◌-◌, ◌≤◌, ◌<◌, ◌≡◌, List, ◌∷◌, ◌++◌, length, drop}
use Rattle.std.proofs.Common.{arith, subst, length-append, length-take}
use Rattle.base.specs.laws.Lists.{get-get_d}
use Rattle.base.specs.laws.Tests.{if-both}
use Rattle.base.specs.Outcome.{accepted}
use Rattle.lexer.specs.Bytes.{b_line_feed}
use Rattle.lexer.specs.Tokens.{Token, tokens}
use Rattle.lexer.proofs.laws.RowLaws.{token-of, tokens-ordered}
use Rattle.parser.specs.Tree.{Class, Program}
use Rattle.parser.specs.Stream.{no_more, token_at, start_at}
use Rattle.parser.specs.Grammar.{DerivesClasses, no-class, more-classes}
use Rattle.parser.specs.Grammar.{DerivesProgram, a_program}
use Rattle.typesystem.specs.ClassTable.{occurs}
use Rattle.appended.proofs.laws.Embedding.{class-long, order-classes, statement-order}
use Rattle.joining.specs.Join.{end_at, slice, first_token, class_text, kept_text}
use Rattle.joining.proofs.laws.Placing.{row_is, first-is}

-- a class has four tokens or more, so a source has at most 512 of them
pub classes-few : {ls : List Token} {i j : ℕ} {ks : List Class} → DerivesClasses ls i j ks → i + 4 * length ks ≤ j
classes-few no-class = omega arith
classes-few (more-classes h g) = omega (arith, class-long h, classes-few g)

-- main's class has at least 18 tokens
pub lesson-few : {ts : List Token} {p : Program} → DerivesProgram ts p → 4 * length p.classes + 16 ≤ length ts
lesson-few (a_program h d e₁ e₂ ds) = omega (arith, classes-few ds, statement-order d)

part_length : (b e : ℕ) (lib : List ℕ) → length (slice b e lib) ≤ e - b
part_length b e lib = omega (arith, length-take (e - b) (drop b lib))

module _ (lib : List ℕ) (ls : List Token) (lexed : tokens lib ≡ accepted ls) where
  -- the end of a token is within the bytes, and no later than the begin of a later one
  end-inside : (m : ℕ) → m < length ls → end_at ls m ≤ length lib
  end-inside m l = (token-of lib ls lexed m (token_at ls m) (get-get_d ls m no_more l)).inside

  end_before : (m k : ℕ) → m < k → k < length ls → end_at ls m ≤ start_at ls k
  end_before m k h l =
      tokens-ordered lib ls lexed m k (token_at ls m) (token_at ls k) h (get-get_d ls m no_more (omega arith)) (get-get_d ls k no_more l)

  module _ (taken : List (List ℕ)) where
    -- the kept classes from a token on take no more bytes than the library has from there on, and a line feed for each
    kept-length : {i : ℕ} {ks : List Class} → DerivesClasses ls i (length ls) ks → (b : ℕ) → b ≤ length lib
        → ((k : ℕ) → i ≤ k → k < length ls → b ≤ start_at ls k) → length (kept_text taken lib ls ks) + b ≤ length lib + length ks
    kept-length no-class b l f = omega arith
    kept-length (more-classes {i = i} {m = m} {c = k} {cs = ks} D Ds) b l f =
        let o = class-long D in
        let q = order-classes Ds in
        let E = end_at ls (m - 1) in
        let inside = end-inside (m - 1) (omega arith) in
        let rest = kept-length Ds E inside (λ j a c. end_before (m - 1) j (omega arith) c) in
        let first = f i (omega arith) (omega arith) in
        let ends : E ≤ length lib = inside in
        let here : start_at ls i + 1 ≤ E = starts_first i m (omega arith) (omega arith) in
        let text : length (class_text lib ls k ks) ≤ E - start_at ls i =
        subst (λ (n : ℕ). length (class_text lib ls k ks) ≤ n) (λ j. end_at ls (first-is Ds j - 1) - start_at ls (row_is D j))
        (part_length (start_at ls (k.name.row - 1)) (end_at ls (first_token ls ks - 1)) lib) in
        if-both (λ (l : List ℕ). length l + b ≤ length lib + suc (length ks)) (occurs k.name.text taken)
        (λ _. kept_text taken lib ls ks) (λ _. class_text lib ls k ks ++ b_line_feed ∷ kept_text taken lib ls ks)
        (omega arith) (omega (arith, length-append (class_text lib ls k ks) (b_line_feed ∷ kept_text taken lib ls ks)))
      where
        starts_first : (i m : ℕ) → i + 4 ≤ m → m ≤ length ls → start_at ls i + 1 ≤ end_at ls (m - 1)
        starts_first i m h l =
            let t = token-of lib ls lexed i (token_at ls i) (get-get_d ls i no_more (omega arith)) in
            let u = token-of lib ls lexed (m - 1) (token_at ls (m - 1)) (get-get_d ls (m - 1) no_more (omega arith)) in
            omega (arith, end_before i (m - 1) (omega arith) (omega arith), t.nonempty, u.nonempty)

    -- all of them
    pub kept-most : {ks : List Class} → DerivesClasses ls 0 (length ls) ks
        → length (kept_text taken lib ls ks) ≤ length lib + length ks
    kept-most {ks} D = omega (arith, kept-length D 0 (omega arith) (λ k a c. omega arith))
