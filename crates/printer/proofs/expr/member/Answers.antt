-- `printer::expr::member` meets its contract: a point, the token after it, and `(`.
use Rattle.printer.specs.laws.WalkLaws.{member-put}
use Rattle.printer.proofs.expr.member.Goals as goal

pub returns : goal.returns
returns c = search member-put
