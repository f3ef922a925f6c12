-- Document 01, "Class table and types", with 004's rules for operators and document 02, (ix), as one table: for each operator the types
-- that its left operand may have, each with the type of the result. The right operand must fit the left one's type; a left operand of
-- another type is 31.
use Rattle.std.specs.Prelude.{List, [], ◌∷◌, Bool, ◌||◌}
use Rattle.std.proofs.Math.Option.{Option, none, some}
use Rattle.base.specs.Choice.{if◌then◌otherwise◌}
use Rattle.parser.specs.Tree.{Operator, Operator.and, Operator.less, Operator.plus, Operator.minus, Operator.times}
use Rattle.parser.specs.Tree.{Element.int, Element.boolean, Element.fixed, Ty, Ty.plain}
use Rattle.typesystem.specs.ClassTable.{same_type}

pub data Line : Type 0 where
  line : (left result : Ty) → Line

abbrev pub lines : Operator → List Line
lines and = line (plain boolean) (plain boolean) ∷ []
lines less = line (plain int) (plain boolean) ∷ line (plain fixed) (plain boolean) ∷ []
lines plus = line (plain int) (plain int) ∷ line (plain fixed) (plain fixed) ∷ []
lines minus = line (plain int) (plain int) ∷ line (plain fixed) (plain fixed) ∷ []
lines times = line (plain int) (plain int) ∷ line (plain fixed) (plain fixed) ∷ []

unfoldable pub result_in : List Line → (left : Ty) → Option Ty
result_in [] t = none
result_in (line left result ∷ ls) t = if same_type left t then (λ _. some result) otherwise λ _. result_in ls t

-- the type of the result, where the operator takes such a left operand
abbrev pub operation : Operator → (left : Ty) → Option Ty
operation o t = result_in (lines o) t

-- println takes int or fixed
unfoldable pub printable : Ty → Bool
printable t = same_type (plain int) t || same_type (plain fixed) t
