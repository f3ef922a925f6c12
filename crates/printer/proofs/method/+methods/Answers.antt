-- `printer::method::methods` meets its contract. The measure is how many may still come.
use Rattle.std.proofs.Common.{inl, inr}
use Rattle.printer.specs.laws.MethodLaws.{methods-none, methods-end, methods-more}
use Rattle.printer.proofs.method.+methods.Goals as goal

pub returns-then-p-eq0 : goal.returns-then-p-eq0
returns-then-p-eq0 t c =
    elim c.then-p-eq0.either [ inl z ↦ methods-none z c.requires.1 | inr f ↦ methods-end f.1 c.requires.1 ]

pub returns : goal.returns
returns t c = search methods-more
