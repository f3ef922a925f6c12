-- Document 02, (x): "The joined tree is the lesson's classes, then the kept ones, whenever the joined text passes Read".
use Rattle.std.specs.Prelude.{ℕ, ◌≡◌, ◌⊎◌}
use mathlib.Core.List.{List}
use Rattle.base.specs.laws.Lists.{All2}
use Rattle.base.specs.Codes.{source_too_long, too_many_tokens}
use Rattle.base.specs.Outcome.{accepted, refused}
use Rattle.lexer.specs.Tokens.{Token}
use Rattle.parser.specs.Tree.{Class, Program}
use Rattle.parser.specs.Read.{Reading, reading}
use Rattle.appended.specs.More.{with_more}
use Rattle.joining.specs.Join.{names_of, kept_classes}
use Rattle.joining.specs.Copy.{Copy}

-- of a lesson of the tree p and a library of the tokens ls and the classes ks
pub record JoinedText (text : List ℕ) (p : Program) (ls : List Token) (ks : List Class) : Type 0 where
  -- Whenever it passes Read, its tree is the lesson's with the kept classes behind its own.
  pub tree : (r : Reading) → reading text ≡ accepted r
      → (cs : List Class) × All2 (Copy ls) (kept_classes (names_of p) ks) cs × (r.tree ≡ with_more p cs)
  -- Read refuses it with 10 or 15 only.
  pub refusals : (n q : ℕ) → reading text ≡ refused n q → (n ≡ source_too_long) ⊎ (n ≡ too_many_tokens)
