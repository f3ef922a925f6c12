-- Document 02, (xi): "class declarations are appended". A program with classes behind its own, and bytes that are class declarations.
use Rattle.std.specs.Prelude.{ℕ, ◌≡◌, List, ◌++◌, length}
use Rattle.base.specs.Outcome.{accepted}
use Rattle.lexer.specs.Tokens.{Token, tokens}
use Rattle.parser.specs.Tree.{Class, Program}
use Rattle.parser.specs.Grammar.{DerivesClasses}

-- main as it was; the classes as they were, then more of them
abbrev pub with_more : Program → List Class → Program
with_more p ks = record { main = p.main; parameter = p.parameter; statement = p.statement; classes = p.classes ++ ks }

-- the tokens of t, all of them, are zero or more class declarations
pub record ClassDeclarations (t : List ℕ) : Type 0 where
  pub stream : List Token
  pub classes : List Class
  pub lexed : tokens t ≡ accepted stream
  pub derived : DerivesClasses stream 0 (length stream) classes
