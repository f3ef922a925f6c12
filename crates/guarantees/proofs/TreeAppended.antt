-- Document 02, (xi): the tree of a lesson with class declarations behind it. It holds since the tokens of the lesson stay what they were.
use Rattle.std.specs.Prelude.{ℕ, ◌≡◌, List, ◌++◌}
use Rattle.std.proofs.Math.Path.{subst}
use Rattle.lexer.specs.Tokens.{Token}
use Rattle.parser.specs.Tree.{Class, Program}
use Rattle.parser.specs.Grammar.{DerivesProgram}
use Rattle.acceptance.specs.Accepted.{Allowed}
use Rattle.appended.specs.More.{with_more}
use Rattle.appended.proofs.laws.Lexing.{has-tokens, tokens-begin}
use Rattle.appended.proofs.laws.Sources.{tree-begins, program-closed}

-- the lesson s of the tree p, and s with t behind it, of the tree q: both are accepted
module _ (s t : List ℕ) (p q : Program) (A : Allowed s p) (B : Allowed (s ++ t) q) where
  -- The tree of the whole is the lesson's with classes behind its own: the same names, values, token numbers and positions.
  pub tree-appended : (ks : List Class) × (q ≡ with_more p ks)
  tree-appended =
      let h = A.readable in
      let g = B.readable in
      let own = has-tokens s A.stream h.lexed in
      let w = tokens-begin t (program-closed h.derived) own (has-tokens (s ++ t) B.stream g.lexed) in
      tree-begins A.stream w.0 h.derived (subst (λ (ts : List Token). DerivesProgram ts q) w.1 g.derived)
