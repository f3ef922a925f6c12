-- `lexer::scan::belongs` meets its contract: an arm for each class.
use Prim.Native.Nat.{ℕ}
use mathlib.Core.Path.{sym, ap, ◌∙◌}
use lib.Dec.{eqb}
use Rattle.lexer.specs.ByteKinds.{b_digit}
use Rattle.lexer.specs.promises.Scan.{member}
use Rattle.lexer.specs.declared.scan.Class.{Class}
use Rattle.lexer.proofs.ByteKinds.{digit-by-kind}
use Rattle.lexer.proofs.scan.belongs.Goals as goal

pub returns-in-Line : goal.returns-in-Line
returns-in-Line c = sym (ap (λ (k : Class). member k c.args.b) c.in-Line.is)

pub returns-in-Word : goal.returns-in-Word
returns-in-Word c =
    c.is_name_part.ensures ∙ sym (ap (λ (k : Class). member k c.args.b) c.in-Word.is)

pub returns-in-Number : goal.returns-in-Number
returns-in-Number c =
    ap (λ (k : ℕ). eqb k b_digit) c.kind_of.ensures
    ∙ sym (digit-by-kind c.args.b)
    ∙ sym (ap (λ (k : Class). member k c.args.b) c.in-Number.is)
