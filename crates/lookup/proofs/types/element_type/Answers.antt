-- Each return is a law of `TypeLaws`.
use Rattle.lookup.proofs.TypeLaws.{element-int, element-boolean, element-fixed, element-class, element-none}
use Rattle.lookup.proofs.types.element_type.Goals as goal

pub returns-then-k-eq-INT : goal.returns-then-k-eq-INT
returns-then-k-eq-INT c = search element-int

pub returns-then-k-eq-BOOLEAN : goal.returns-then-k-eq-BOOLEAN
returns-then-k-eq-BOOLEAN c = search element-boolean

pub returns-then-k-eq-FIXED : goal.returns-then-k-eq-FIXED
returns-then-k-eq-FIXED c = search element-fixed

pub returns-then-class-lt-INT : goal.returns-then-class-lt-INT
returns-then-class-lt-INT c = search element-class

pub returns : goal.returns
returns c = search element-none
