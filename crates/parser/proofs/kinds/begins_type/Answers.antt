-- `begins_type` meets its contract: a type is `fixed`, or one of which there are arrays.
use mathlib.Core.Path.{refl, sym, ◌∙◌}
use borrow.Author.Tests.{eq-eqb, ne_eqb}
use Rattle.lexer.specs.Kinds.{k_fixed}
use Rattle.parser.proofs.Types.{type-or-fixed}
use Rattle.parser.proofs.kinds.begins_type.Goals as goal

pub returns-then-k-eq-FIXED : goal.returns-then-k-eq-FIXED
returns-then-k-eq-FIXED c =
    let t = eq-eqb c.args.k k_fixed c.if-k-eq-FIXED.true in t ∙ sym (type-or-fixed c.args.k c.args.named ∙ rw t refl)

pub returns-else-k-eq-FIXED : goal.returns-else-k-eq-FIXED
returns-else-k-eq-FIXED c =
    c.begins_element.ensures ∙ sym (type-or-fixed c.args.k c.args.named ∙ rw (ne_eqb c.args.k k_fixed c.if-k-eq-FIXED.false) refl)
