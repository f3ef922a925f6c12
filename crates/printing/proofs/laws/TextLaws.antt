-- The text of a tree that was read: its tokens, and the tree that the grammar derives from them.
use Rattle.std.specs.Prelude.{ℕ, ◌+◌, ◌≤◌, ◌≡◌, refl, List, [], ◌∷◌, ◌++◌, map, length, drop}
use Rattle.std.proofs.Common.{sym, ap, ◌∙◌, subst, arith, length-append}
use Rattle.std.proofs.lemmas.List.{length-map}
use Rattle.base.specs.All.{All, all_nil, all_cons}
use Rattle.base.specs.Codes.{tokens_most}
use Rattle.base.specs.Outcome.{accepted}
use Rattle.base.specs.laws.Lists.{drop-none, all_append}
use Rattle.lexer.specs.Kinds.{k_open, k_close}
use Rattle.lexer.specs.Tokens.{Token, tokens}
use Rattle.lexer.proofs.laws.RowLaws.{Sequence, finish, follow, sequence, sequence-few}
use Rattle.parser.specs.Tree.{Expression, Program}
use Rattle.parser.specs.Grammar.{DerivesProgram}
use Rattle.parser.specs.Read.{Reading, reading}
use Rattle.grammar.specs.laws.Agreement.{one-tree}
use Rattle.acceptance.specs.Read.{Readable, readable-exactly}
use Rattle.printing.specs.Printed.{Lexeme, spelt, bare, program_tokens, separator, render, text}
use Rattle.printing.specs.Same.{erase_program, SameProgram}
use Rattle.printing.specs.Pairs.{WithPairs, as-they-are, one_more}
use Rattle.printing.proofs.laws.Appending.{bare-append, render-append}
use Rattle.printing.proofs.laws.Lexing.{lexeme, laid, laid-lexemes, Taken, lexed}
use Rattle.printing.proofs.laws.Fitting.{FitProgram, printed-taken}
use Rattle.printing.proofs.laws.Fits.{fit-program}
use Rattle.printing.proofs.laws.Reading.{From}
use Rattle.printing.proofs.laws.Declaring.{derived}
use Rattle.printing.proofs.laws.PairLaws.{few}

-- a tree that can be written: the lexer takes its tokens, which are not too many
pub record PrintableTree (p : Program) : Type 0 where
  pub fits : FitProgram p
  pub many : length (program_tokens p) ≤ tokens_most

-- the tree of a lesson can
pub written : (s : List ℕ) (r : Reading) → reading s ≡ accepted r → PrintableTree r.tree
written s r e =
    let h = (readable-exactly s r.stream r.tree).0 e in
    record {
      fits = fit-program s r.stream h.lexed h.derived;
      many = omega (arith, few s r.stream h.lexed h.derived, sequence-few (omega arith) (sequence s r.stream h.lexed));
    }

module _ (p : Program) (w : PrintableTree p) where
  -- the tokens of the text
  pub text-tokens : tokens (text p) ≡ accepted (laid 0 (program_tokens p))
  unfolding text
  text-tokens = lexed (program_tokens p) (printed-taken p w.fits) w.many

  laid_from : (ls : List Lexeme) → From (laid 0 ls) 0 ls
  laid_from ls = record {
    are = ap (map lexeme) (sym (drop-none (laid 0 ls))) ∙ laid-lexemes 0 ls;
    count = let h = ap length (laid-lexemes 0 ls) in omega (arith, length-map (laid 0 ls) lexeme);
  }

  -- and the tree
  pub text-tree : (q : Program) × DerivesProgram (laid 0 (program_tokens p)) q × SameProgram q p
  text-tree = derived (laid 0 (program_tokens p)) p w.fits (laid_from (program_tokens p))

  -- the tokens of the text without a pair
  pub without-pair : (front mid back : List Lexeme) → program_tokens p ≡ front ++ spelt k_open ∷ (mid ++ spelt k_close ∷ back)
      → tokens (render (front ++ (mid ++ back))) ≡ accepted (laid 0 (front ++ (mid ++ back)))
  without-pair front mid back q =
      let a = subst (All Taken) q (printed-taken p w.fits) in
      let b = split front (spelt k_open ∷ (mid ++ spelt k_close ∷ back)) a in
      let c = split mid (spelt k_close ∷ back) (tail b.1) in
      lexed (front ++ (mid ++ back)) (all_append b.0 (all_append c.0 (tail c.1)))
      (omega (
        arith,
        w.many,
        ap length q,
        length-append front (spelt k_open ∷ (mid ++ spelt k_close ∷ back)),
        length-append mid (spelt k_close ∷ back),
        length-append front (mid ++ back),
        length-append mid back,
      ))
    where
      tail : {l : Lexeme} {ls : List Lexeme} → All Taken (l ∷ ls) → All Taken ls
      tail (all_cons t h) = h

      split : (ls ms : List Lexeme) → All Taken (ls ++ ms) → All Taken ls × All Taken ms
      split [] ms h = (all_nil, h)
      split (l ∷ ls) ms (all_cons t h) = let r = split ls ms h in (all_cons t r.0, r.1)

-- two trees with one text are the same
pub one-tree-of : (p q : Program) → PrintableTree p → PrintableTree q → text p ≡ text q → SameProgram p q
one-tree-of p q w v e =
    let x₁ = text-tokens p w in
    let x₂ = text-tokens q v in
    let z : laid 0 (program_tokens p) ≡ laid 0 (program_tokens q) = cc in
    let y₁ = text-tree p w in
    let y₂ = text-tree q v in
    let d = subst (λ (ts : List Token). DerivesProgram ts y₁.0) z y₁.1 in
    sym y₁.2 ∙ ap erase_program (one-tree (laid 0 (program_tokens q)) y₁.0 y₂.0 d y₂.1) ∙ y₂.2

-- HOW LONG A TEXT IS

-- a pair is four bytes more
pub no-shorter : {ls ms : List Lexeme} → WithPairs ls ms → length (render ls) ≤ length (render ms)
no-shorter as-they-are = omega arith
no-shorter (one_more e front back q r t) =
    omega (
      arith,
      no-shorter q,
      ap (λ (ls : List Lexeme). length (render ls)) r,
      ap (λ (ls : List Lexeme). length (render ls)) t,
      rendered front (bare e back),
      rendered front (spelt k_open ∷ bare e (spelt k_close ∷ back)),
      rendered (spelt k_open ∷ []) (bare e (spelt k_close ∷ back)),
      followed e back,
      followed e (spelt k_close ∷ back),
      rendered (spelt k_close ∷ []) back,
    )
  where
    rendered : (x y : List Lexeme) → length (render (x ++ y)) ≡ length (render x) + length (render y)
    rendered x y = ap length (render-append x y) ∙ length-append (render x) (render y)

    followed : (e : Expression) (y : List Lexeme) → length (render (bare e y)) ≡ length (render (bare e [])) + length (render y)
    followed e y = ap (λ (ls : List Lexeme). length (render ls)) (bare-append e [] y) ∙ rendered (bare e []) y

-- laid out, the tokens of a source take at most one byte each more than they did
laid_out : {s : List ℕ} {count i : ℕ} {ts : List Token} → i ≤ length s → Sequence s count i ts
    → i + length (render (map lexeme ts)) ≤ length s + length ts
unfolding render
laid_out h finish = omega arith
laid_out h (follow {t = t} {ts = ts} c l o r) =
    omega (
      arith,
      o.inside,
      laid_out o.inside r,
      length-append t.text (separator t.kind ∷ render (map lexeme ts)),
    )

pub source-laid-out : (s : List ℕ) (ts : List Token) → tokens s ≡ accepted ts → length (render (map lexeme ts)) ≤ length s + length ts
source-laid-out s ts e = omega (arith, laid_out (omega arith) (sequence s ts e))
