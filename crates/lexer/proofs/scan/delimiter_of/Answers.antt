-- `lexer::scan::delimiter_of` meets its contract: the tests of the definition, byte by byte.
use Prim.Native.Nat.{ℕ}
use mathlib.Core.Logic.{◌≢◌}
use mathlib.Core.Path.{◌≡◌}
use borrow.Author.Tests.{ne_eqb}
use Rattle.lexer.specs.Bytes.{b_slash, b_star}
use Rattle.lexer.specs.promises.Scan.{delimiter_of_lem}
use Rattle.lexer.specs.declared.scan.Delimiter.TheVariants.{Open, Close, Other}
use Rattle.lexer.proofs.scan.delimiter_of.Goals as goal

module _ (a b : ℕ) where
  opens : a ≡ b_slash → b ≡ b_star → Open ≡ delimiter_of_lem a b
  opens p q = rw (p, q)

  half-open : a ≡ b_slash → b ≢ b_star → Other ≡ delimiter_of_lem a b
  half-open p q = rw (p, ne_eqb b b_star q)

  close : a ≡ b_star → b ≡ b_slash → Close ≡ delimiter_of_lem a b
  close p q = rw (p, q)

  half-close : a ≡ b_star → b ≢ b_slash → Other ≡ delimiter_of_lem a b
  half-close p q = rw (p, ne_eqb b b_slash q)

  other : a ≢ b_slash → a ≢ b_star → Other ≡ delimiter_of_lem a b
  other p q = rw (ne_eqb a b_slash p, ne_eqb a b_star q)

pub returns-then-b-eq42 : goal.returns-then-b-eq42
returns-then-b-eq42 c = opens _ _ c.if-a-eq47.true c.if-b-eq42.true

pub returns-then-a-eq47 : goal.returns-then-a-eq47
returns-then-a-eq47 c = half-open _ _ c.if-a-eq47.true c.if-b-eq42.false

pub returns-then-b-eq47 : goal.returns-then-b-eq47
returns-then-b-eq47 c = close _ _ c.if-a-eq42.true c.if-b-eq47.true

pub returns-else-b-eq47 : goal.returns-else-b-eq47
returns-else-b-eq47 c = half-close _ _ c.if-a-eq42.true c.if-b-eq47.false

pub returns-else-a-eq42 : goal.returns-else-a-eq42
returns-else-a-eq42 c = other c.args.a c.args.b c.if-a-eq47.false c.if-a-eq42.false
