-- `printer::decl::parameters` meets its contract. The measure is how many may still come.
use Rattle.std.proofs.Common.{inl, inr}
use Rattle.printer.specs.laws.DeclareLaws.{parameters-none, parameters-end, parameters-last, parameters-more}
use Rattle.printer.proofs.decl.+parameters.Goals as goal

pub returns-then-p-eq0 : goal.returns-then-p-eq0
returns-then-p-eq0 t c =
    elim c.then-p-eq0.either [ inl z ↦ parameters-none z c.requires.1 | inr f ↦ parameters-end f.1 c.requires.1 ]

pub returns-then-p-ge-ABSENT-2 : goal.returns-then-p-ge-ABSENT-2
returns-then-p-ge-ABSENT-2 t c = search parameters-last

pub returns : goal.returns
returns t c = search parameters-more
