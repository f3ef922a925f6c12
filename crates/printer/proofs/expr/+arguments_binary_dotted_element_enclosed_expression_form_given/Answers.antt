-- The cycle of calls on expressions. The measure is 8 for each node that may still come, and the rank of the function.
use Rattle.std.proofs.Common.{inl, inr}
use Rattle.printer.specs.laws.WalkLaws.{arguments-none, arguments-end, arguments-last, arguments-more, binary-put, dotted-length}
use Rattle.printer.specs.laws.WalkLaws.{dotted-call, element-put, enclosed-put, expression-none, expression-bare, expression-pair}
use Rattle.printer.specs.laws.WalkLaws.{form-atom, form-array, form-object, form-not, form-port, form-element, form-binary, given-put}
use Rattle.printer.proofs.expr.+arguments_binary_dotted_element_enclosed_expression_form_given.Goals as goal

pub arguments-returns-then-p-eq0 : goal.arguments-returns-then-p-eq0
arguments-returns-then-p-eq0 t c =
    elim c.then-p-eq0.either [ inl z ↦ arguments-none z c.requires.1 | inr f ↦ arguments-end f.1 c.requires.1 ]

pub arguments-returns-then-p-ge-ABSENT-2 : goal.arguments-returns-then-p-ge-ABSENT-2
arguments-returns-then-p-ge-ABSENT-2 t c = search arguments-last

pub arguments-returns : goal.arguments-returns
arguments-returns t c = search arguments-more

pub binary-returns : goal.binary-returns
binary-returns t c =
    binary-put c.requires.2 c.part.ensures c.expression-a.ensures c.token-b.ensures c.tighter.ensures c.part-2.ensures c.expression.ensures

pub dotted-returns-then-kind-eq-LENGTH : goal.dotted-returns-then-kind-eq-LENGTH
dotted-returns-then-kind-eq-LENGTH t c = search dotted-length

pub dotted-returns : goal.dotted-returns
dotted-returns t c =
    dotted-call c.requires.2 c.part.ensures c.expression-a.ensures c.kind.ensures c.if-kind-eq-LENGTH.false c.member-b.ensures
    c.part-2.ensures c.given.ensures

pub element-returns : goal.element-returns
element-returns t c = search element-put

pub enclosed-returns : goal.enclosed-returns
enclosed-returns t c = search enclosed-put

pub expression-returns-then-p-eq0 : goal.expression-returns-then-p-eq0
expression-returns-then-p-eq0 t c = search expression-none

pub expression-returns-then-wanted-rank : goal.expression-returns-then-wanted-rank
expression-returns-then-wanted-rank t c = search expression-bare

pub expression-returns : goal.expression-returns
expression-returns t c = search expression-pair

pub form-returns-then-is_atom : goal.form-returns-then-is_atom
form-returns-then-is_atom t c = search form-atom

pub form-returns-then-third-eq-OPEN_BRACKET : goal.form-returns-then-third-eq-OPEN_BRACKET
form-returns-then-third-eq-OPEN_BRACKET t c =
    form-array c.requires.2 c.requires.3 c.if-k-eq-NEW.true c.if-third-eq-OPEN_BRACKET.true c.made-a.ensures c.spell-b.ensures
    c.part.ensures c.enclosed.ensures

pub form-returns-then-k-eq-NEW : goal.form-returns-then-k-eq-NEW
form-returns-then-k-eq-NEW t c = search form-object

pub form-returns-then-k-eq-NOT : goal.form-returns-then-k-eq-NOT
form-returns-then-k-eq-NOT t c = search form-not

pub form-returns-then-k-eq-PORT : goal.form-returns-then-k-eq-PORT
form-returns-then-k-eq-PORT t c = search form-port

pub form-returns-then-k-eq-OPEN_BRACKET : goal.form-returns-then-k-eq-OPEN_BRACKET
form-returns-then-k-eq-OPEN_BRACKET t c = search form-element

pub form-returns : goal.form-returns
form-returns t c = search form-binary

pub given-returns : goal.given-returns
given-returns t c = search given-put
