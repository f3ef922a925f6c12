-- `printer::decl::variables` meets its contract. The measure is how many may still come.
use Rattle.std.proofs.Common.{inl, inr}
use Rattle.printer.specs.laws.DeclareLaws.{variables-none, variables-end, variables-more}
use Rattle.printer.proofs.decl.+variables.Goals as goal

pub returns-then-p-eq0 : goal.returns-then-p-eq0
returns-then-p-eq0 t c =
    elim c.then-p-eq0.either [ inl z ↦ variables-none z c.requires.1 | inr f ↦ variables-end f.1 c.requires.1 ]

pub returns : goal.returns
returns t c = search variables-more
