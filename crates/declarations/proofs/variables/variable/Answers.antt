-- Each return is a law of `VariableLaws`.
use Rattle.declarations.proofs.VariableLaws.{variable-other, variable-twice, variable-fine, variable-many, variable-unknown}
use Rattle.declarations.proofs.variables.variable.Goals as goal

pub returns-then-repeated : goal.returns-then-repeated
returns-then-repeated c = search variable-other

pub returns-then-repeated-2 : goal.returns-then-repeated-2
returns-then-repeated-2 c = search variable-twice

pub returns-then-before-index-lt-VARIABLES_MOST : goal.returns-then-before-index-lt-VARIABLES_MOST
returns-then-before-index-lt-VARIABLES_MOST c = search variable-fine

pub returns-then-is_known : goal.returns-then-is_known
returns-then-is_known c = search variable-many

pub returns : goal.returns
returns c = search variable-unknown
